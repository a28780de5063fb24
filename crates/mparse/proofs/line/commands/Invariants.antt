-- SPDX-License-Identifier: Apache-2.0
use Rattle.mparse.proofs.ParseWords.{◌≡◌, ◌-◌, length, map, spaced_tree, with_front, many, spaced_at}
use Rattle.mparse.proofs.line.commands.Given as goal

abbrev pub invariant-loop : goal.invariant-loop
invariant-loop l = with_front (map spaced_tree l.all.items) (many spaced_at (length l.bytes - l.counter) l.rest) ≡ many spaced_at (length l.bytes) l.bytes
