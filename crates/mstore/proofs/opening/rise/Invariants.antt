-- SPDX-License-Identifier: Apache-2.0
use Rattle.mstore.proofs.Words.{None, drop, RiseFrom}
use Rattle.mstore.proofs.opening.rise.Given as goal

abbrev pub invariant-loop-row : goal.invariant-loop-row
invariant-loop-row l = RiseFrom l.last (drop l.row-index l.rows) → RiseFrom None l.rows
