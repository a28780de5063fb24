-- SPDX-License-Identifier: Apache-2.0
use Rattle.std.proofs.Common.{◌≡◌, ◌-◌, length}
use Rattle.mgrammar.specs.ReadingWords.{name_at, many, after_comma}
use Rattle.mscan.proofs.ListedNames.{behind}
use Rattle.mscan.proofs.formal_lists.behind_names.Given as goal

abbrev pub invariant-loop : goal.invariant-loop
invariant-loop l = behind (many (after_comma name_at) (length l.bytes - l.counter) l.rest) ≡ behind (many (after_comma name_at) (length l.bytes) l.bytes)
