-- SPDX-License-Identifier: Apache-2.0
-- The counts of a pattern as the machine keeps them: one past the machine's greatest number is that number, which the
-- length of no text reaches.
use Rattle.std.specs.Prelude.{◌≡◌, ℕ, ◌-◌, ◌^◌, min, Bool, option_map}
use Rattle.mspec.specs.Pattern as plain
use Rattle.mgrammar.specs.Grammar.{CountTree}
use Rattle.mgrammar.specs.Matching.{count_of as plain_count}
use Rattle.mspec.specs.PatternTests.{is_reversed}
use Rattle.mtext.specs.PatternPlaces.{count_of}
use Rattle.mtext.specs.declared.pattern.Count.{Count}

abbrev pub capped : ℕ → ℕ
capped n = min n (2 ^ 64 - 1)

abbrev pub capped_count : plain.Count → plain.Count
capped_count count = record { least = capped count.least; most = option_map capped count.most }

-- what is kept of a count as it is written: its numbers, and whether they are reversed
abbrev pub IsRead : CountTree → Count → Bool → Type 0
IsRead written number reversed = (count_of number ≡ capped_count (plain_count written)) × (reversed ≡ is_reversed (plain_count written))
