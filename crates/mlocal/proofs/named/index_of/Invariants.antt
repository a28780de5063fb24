-- SPDX-License-Identifier: Apache-2.0
use Rattle.mlocal.proofs.LocalWords.{◌≡◌, ◌+◌, drop}
use Rattle.mlocal.proofs.NamedTrees.{first_at}
use Rattle.mlocal.proofs.named.index_of.Given as goal

abbrev pub invariant-loop-index : goal.invariant-loop-index
invariant-loop-index l = first_at l.name l.named ≡ l.index + first_at l.name (drop l.index l.named)
