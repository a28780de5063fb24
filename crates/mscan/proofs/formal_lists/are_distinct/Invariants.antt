-- SPDX-License-Identifier: Apache-2.0
use Rattle.std.proofs.Common.{◌≡◌, ◌-◌, ◌≤◌, ◌∷◌, length}
use Rattle.mgrammar.specs.RoutineLine.{are_distinct}
use Rattle.mscan.specs.Formals.{names_after}
use Rattle.mscan.proofs.formal_lists.are_distinct.Given as goal

abbrev pub invariant-loop : goal.invariant-loop
invariant-loop l = (length l.rest ≤ length l.bytes - l.counter)
    × (are_distinct (l.name ∷ names_after (length l.bytes - l.counter) l.rest) ≡ are_distinct (l.first ∷ names_after (length l.bytes) l.bytes))
