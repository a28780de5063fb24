-- SPDX-License-Identifier: Apache-2.0
use Rattle.mkey.proofs.KeyWords.{◌≡◌, length, slice_cmp, nat_cmp}
use Rattle.mkey.proofs.order.compare.Given as goal

-- what is left decides as the whole does
abbrev pub invariant-loop-rest : goal.invariant-loop-rest
invariant-loop-rest l = slice_cmp nat_cmp l.left l.right ≡ slice_cmp nat_cmp l.rest l.other

abbrev pub decreases-loop-rest : goal.decreases-loop-rest
decreases-loop-rest l = length l.rest
