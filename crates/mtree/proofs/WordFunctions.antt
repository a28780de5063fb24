-- SPDX-License-Identifier: Apache-2.0
-- The function of values that a word names: there is one.
use Rattle.std.proofs.Common.{◌≡◌, ℕ, List, Option, Some, None, sym, ap, ◌∙◌}
use Rattle.mgrammar.specs.Functions.{ValueFunctionTree, ascii_function, FunctionTree, of_values, of_variable, of_choices}
use Rattle.mtree.specs.Functions.{IsValueWord}

-- the function of values, and any other if it is none
abbrev values_of : Option FunctionTree → ValueFunctionTree
values_of None = ascii_function
values_of (Some (of_values f least most)) = f
values_of (Some (of_variable f most)) = ascii_function
values_of (Some of_choices) = ascii_function

pub one_function : (w : List ℕ) (f g : ValueFunctionTree) → IsValueWord w f → IsValueWord w g → f ≡ g
one_function w f g p q = ap values_of (sym p.2 ∙ q.2)
