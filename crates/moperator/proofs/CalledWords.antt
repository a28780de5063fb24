-- SPDX-License-Identifier: Apache-2.0
-- The function of values that a word names.
use Rattle.moperator.proofs.OperatorWords.{◌≡◌, ℕ, List, ap, Text, ValueFunctionTree, FunctionTree, function_value, named_value, call_value}
use Rattle.std.proofs.Common.{Option}
use Rattle.mtree.specs.Functions.{IsValueWord}

pub called : (w : List ℕ) (f : ValueFunctionTree) (args : List Text) → IsValueWord w f → call_value w args ≡ function_value f args
called w f args p = ap (λ (o : Option FunctionTree). named_value o args) p.2
