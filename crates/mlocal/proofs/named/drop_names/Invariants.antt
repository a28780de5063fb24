-- SPDX-License-Identifier: Apache-2.0
use Rattle.mlocal.proofs.LocalWords.{◌≡◌, ◌++◌, take, drop, length, not, is_among, spared}
use Rattle.mlocal.proofs.named.drop_names.Given as goal

abbrev pub invariant-loop-index : goal.invariant-loop-index
invariant-loop-index l =
    (length l.named.items ≡ length l.initial.named.items)
    × (take l.index l.named.items ++ spared (λ n. not (is_among l.names n)) (drop l.index l.named.items) ≡ spared (λ n. not (is_among l.names n))
    l.initial.named.items)
