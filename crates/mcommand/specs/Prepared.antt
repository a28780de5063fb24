-- SPDX-License-Identifier: Apache-2.0
-- A target of the code, once its parts are evaluated, as the meaning has it.
use Rattle.std.specs.Prelude.{Some, None}
use Rattle.mgrammar.specs.Functions.{ValueFunctionTree, ascii_function, char_function, extract_function, find_function, format_number_function}
use Rattle.mgrammar.specs.Functions.{justify_function, length_function, name_length_function, name_subscript_function, piece_function}
use Rattle.mgrammar.specs.Functions.{reverse_function, translate_function, FunctionTree, of_values}
use Rattle.mtree.specs.Functions.{value_function_tree}
use Rattle.mmeaning.specs.LineMeaning as meaning
use Rattle.meval.specs.Places.{pending_view}
use Rattle.mcommand.specs.declared.set.Prepared.{Prepared}
use Rattle.mcommand.specs.declared.set.Prepared.TheVariants as prepared

-- a function of values as its row has it, with how many it takes
abbrev pub row_of : ValueFunctionTree → FunctionTree
row_of ascii_function = of_values ascii_function 1 (Some 2)
row_of char_function = of_values char_function 1 None
row_of extract_function = of_values extract_function 1 (Some 3)
row_of find_function = of_values find_function 2 (Some 3)
row_of format_number_function = of_values format_number_function 2 (Some 3)
row_of justify_function = of_values justify_function 2 (Some 3)
row_of length_function = of_values length_function 1 (Some 2)
row_of name_length_function = of_values name_length_function 1 (Some 1)
row_of name_subscript_function = of_values name_subscript_function 2 (Some 2)
row_of piece_function = of_values piece_function 2 (Some 4)
row_of reverse_function = of_values reverse_function 1 (Some 1)
row_of translate_function = of_values translate_function 2 (Some 3)

abbrev pub prepared_view : Prepared → meaning.Prepared
prepared_view (prepared.Whole pending) = meaning.whole (pending_view pending)
prepared_view (prepared.Part f pending values) = meaning.partial (Some (row_of (value_function_tree f))) (pending_view pending) values
