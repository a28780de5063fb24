-- SPDX-License-Identifier: Apache-2.0
-- What a function's word says, as the grammar has it.
use Rattle.std.specs.Prelude.{◌≡◌, ℕ, Option, Some, List}
use Rattle.mgrammar.specs.Functions.{ValueFunctionTree, ascii_function, char_function, extract_function, find_function, format_number_function}
use Rattle.mgrammar.specs.Functions.{justify_function, length_function, name_length_function, name_subscript_function, piece_function}
use Rattle.mgrammar.specs.Functions.{reverse_function, translate_function}
use Rattle.mgrammar.specs.Functions.{VariableFunctionTree, data_function, get_function, increment_function, name_function, order_function, query_function}
use Rattle.mgrammar.specs.Functions.{FunctionTree, of_values, of_variable, of_choices, function_of}
use Rattle.mtree.specs.declared.intrinsic.ValueFunction.{ValueFunction}
use Rattle.mtree.specs.declared.intrinsic.ValueFunction.TheVariants as values
use Rattle.mtree.specs.declared.intrinsic.VariableFunction.{VariableFunction}
use Rattle.mtree.specs.declared.intrinsic.VariableFunction.TheVariants as variable
use Rattle.mtree.specs.declared.intrinsic.Function.{Function}
use Rattle.mtree.specs.declared.intrinsic.Function.TheVariants as function

abbrev pub value_function_tree : ValueFunction → ValueFunctionTree
value_function_tree values.Ascii = ascii_function
value_function_tree values.Char = char_function
value_function_tree values.Extract = extract_function
value_function_tree values.Find = find_function
value_function_tree values.FormatNumber = format_number_function
value_function_tree values.Justify = justify_function
value_function_tree values.Length = length_function
value_function_tree values.NameLength = name_length_function
value_function_tree values.NameSubscript = name_subscript_function
value_function_tree values.Piece = piece_function
value_function_tree values.Reverse = reverse_function
value_function_tree values.Translate = translate_function

abbrev pub variable_function_tree : VariableFunction → VariableFunctionTree
variable_function_tree variable.Data = data_function
variable_function_tree variable.Get = get_function
variable_function_tree variable.Increment = increment_function
variable_function_tree variable.Name = name_function
variable_function_tree variable.Order = order_function
variable_function_tree variable.Query = query_function

abbrev pub function_tree : Function → FunctionTree
function_tree (function.OfValues f least most) = of_values (value_function_tree f) least most
function_tree (function.OfVariable f most) = of_variable (variable_function_tree f) most
function_tree function.OfChoices = of_choices

-- the word of a function of values
abbrev pub IsValueWord : List ℕ → ValueFunctionTree → Type 0
IsValueWord text f = (least : ℕ) × (most : Option ℕ) × (function_of text ≡ Some (of_values f least most))

-- the word of a function of a variable
abbrev pub IsVariableWord : List ℕ → VariableFunctionTree → Type 0
IsVariableWord text f = (most : ℕ) × (function_of text ≡ Some (of_variable f most))
