-- SPDX-License-Identifier: Apache-2.0
use Rattle.mlocal.proofs.LocalWords.{◌≡◌, ◌++◌, take, drop, length, stays, spared}
use Rattle.mlocal.proofs.named.keep_spared.Given as goal

abbrev pub invariant-loop-index : goal.invariant-loop-index
invariant-loop-index l =
    (length l.named.items ≡ length l.initial.named.items)
    × (take l.index l.named.items ++ spared (stays l.names l.above) (drop l.index l.named.items) ≡ spared (stays l.names l.above) l.initial.named.items)
