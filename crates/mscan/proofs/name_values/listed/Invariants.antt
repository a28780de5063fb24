-- SPDX-License-Identifier: Apache-2.0
use Rattle.std.proofs.Common.{◌≡◌, ◌-◌}
use Rattle.mgrammar.specs.NameValues.{name_subscript_at}
use Rattle.mgrammar.specs.ReadingWords.{with_front, many, after_comma, list_at}
use Rattle.mscan.proofs.name_values.listed.Given as goal

abbrev pub invariant-loop : goal.invariant-loop
invariant-loop l = with_front l.all.items (many (after_comma name_subscript_at) (l.end - l.counter) l.rest) ≡ list_at name_subscript_at l.bytes
