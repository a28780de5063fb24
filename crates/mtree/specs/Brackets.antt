-- SPDX-License-Identifier: Apache-2.0
-- What a text says as the word of a function.
use Rattle.std.specs.Prelude.{◌≡◌, ℕ, Option, None, Some, List}
use Rattle.mgrammar.specs.Functions.{ValueFunctionTree, VariableFunctionTree, of_values, of_variable, of_choices, function_of}
use Rattle.mtree.specs.declared.brackets.FunctionWord.{FunctionWord}
use Rattle.mtree.specs.declared.brackets.FunctionWord.TheVariants as word

abbrev pub IsSaid : List ℕ → Option FunctionWord → Type 0
IsSaid text None = function_of text ≡ None
IsSaid text (Some (word.OfValues w least most)) = (w ≡ text) × (f : ValueFunctionTree) × (function_of text ≡ Some (of_values f least most))
IsSaid text (Some (word.OfVariable w most)) = (w ≡ text) × (f : VariableFunctionTree) × (function_of text ≡ Some (of_variable f most))
IsSaid text (Some (word.OfChoices w)) = (w ≡ text) × (function_of text ≡ Some of_choices)
