-- SPDX-License-Identifier: Apache-2.0
use Rattle.std.proofs.Common.{◌≡◌, ◌-◌, ◌++◌, ◌∷◌, length}
use Rattle.mscan.specs.Formals.{names_after}
use Rattle.mscan.proofs.formal_lists.names_from.Given as goal

abbrev pub invariant-loop : goal.invariant-loop
invariant-loop l = l.all.items ++ names_after (length l.bytes - l.counter) l.rest ≡ l.first ∷ names_after (length l.bytes) l.bytes
