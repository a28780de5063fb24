-- SPDX-License-Identifier: Apache-2.0
use Rattle.meval.proofs.EvalWords.{◌≡◌, take}
use Rattle.meval.proofs.value_list.copied.Given as goal

abbrev pub invariant-loop-value : goal.invariant-loop-value
invariant-loop-value l = l.copies.items ≡ take l.value-index l.values
