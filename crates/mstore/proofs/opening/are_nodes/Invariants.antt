-- SPDX-License-Identifier: Apache-2.0
use Rattle.mstore.proofs.Words.{take, AllByRecursion, ShowsNodeBy, digits_of}
use Rattle.mstore.proofs.opening.are_nodes.Given as goal

abbrev pub invariant-loop-row : goal.invariant-loop-row
invariant-loop-row l = AllByRecursion (ShowsNodeBy (digits_of l.version)) (take l.row-index l.rows)
