-- SPDX-License-Identifier: Apache-2.0
use Rattle.std.proofs.Common.{◌≡◌, ◌-◌, length}
use Rattle.std.specs.List.{list_any}
use Rattle.mspec.specs.Trees.{text_eq}
use Rattle.mscan.specs.Formals.{names_after}
use Rattle.mscan.proofs.formal_lists.is_among.Given as goal

abbrev pub invariant-loop : goal.invariant-loop
invariant-loop l = list_any (text_eq l.name) (names_after (length l.bytes - l.counter) l.rest) ≡ list_any (text_eq l.name) (names_after (length l.bytes) l.bytes)
