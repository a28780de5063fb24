-- SPDX-License-Identifier: Apache-2.0
use Rattle.moperator.proofs.OperatorWords.{◌≤◌, length, take, map, Result, Text, sign_tree, Yields, fault_of, Code}
use Rattle.mmeaning.specs.Operators as meaning
use Rattle.moperator.proofs.operators.unaries.Given as goal

abbrev pub invariant-loop-left : goal.invariant-loop-left
invariant-loop-left l = record {
  within : l.left ≤ length l.signs;
  leads : (r : Result Text Code) → Yields fault_of (meaning.unaries (map sign_tree (take l.left l.signs)) l.value) (λ (v : Text). v) r → Yields fault_of (meaning.unaries (map sign_tree l.signs) l.fn.value) (λ (v : Text). v) r;
}

abbrev pub decreases-loop-left : goal.decreases-loop-left
decreases-loop-left l = l.left
