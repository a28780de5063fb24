-- SPDX-License-Identifier: Apache-2.0
use Rattle.mlocal.proofs.LocalWords.{◌≡◌, ◌++◌, take, drop, length, is_among, spared}
use Rattle.mlocal.proofs.named.keep_names.Given as goal

abbrev pub invariant-loop-index : goal.invariant-loop-index
invariant-loop-index l =
    (length l.named.items ≡ length l.initial.named.items)
    × (take l.index l.named.items ++ spared (is_among l.names) (drop l.index l.named.items) ≡ spared (is_among l.names) l.initial.named.items)
