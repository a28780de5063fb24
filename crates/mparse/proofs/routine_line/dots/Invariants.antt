-- SPDX-License-Identifier: Apache-2.0
use Rattle.mparse.proofs.ParseWords.{◌≡◌, ◌-◌, length, with_front, many, dot_at}
use Rattle.mparse.proofs.routine_line.dots.Given as goal

abbrev pub invariant-loop : goal.invariant-loop
invariant-loop l = with_front l.all.items (many dot_at (length l.bytes - l.counter) l.rest) ≡ many dot_at (length l.bytes) l.bytes
