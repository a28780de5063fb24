-- SPDX-License-Identifier: Apache-2.0
use Rattle.std.proofs.Common.{◌≡◌, ◌+◌, ◌≤◌, length, drop}
use Rattle.std.specs.List.{filter}
use Rattle.mgrammar.specs.ReadingWords.{run_of}
use Rattle.mgrammar.specs.RoutineLine.{is_dot, is_space_or_dot}
use Rattle.mscan.proofs.routine.dots_in_run.Given as goal

abbrev pub invariant-loop-byte : goal.invariant-loop-byte
invariant-loop-byte l = (l.dots ≤ l.byte-index)
    × (length (filter is_dot (run_of is_space_or_dot l.bytes)) ≡ l.dots + length (filter is_dot (run_of is_space_or_dot (drop l.byte-index l.bytes))))
