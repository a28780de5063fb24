-- SPDX-License-Identifier: Apache-2.0
-- The law of pattern match. The function of src/ named after it carries it.
use Rattle.std.specs.Prelude.{ℕ, List, Decides}
use Rattle.mspec.specs.Pattern.{Atom, Matches}
use Rattle.mspec.specs.PatternTests.{is_match}

-- `is_match` is true exactly when the text is a joining of segments, one for each atom
abbrev pub DecidesMatch : Type 0
DecidesMatch = (atoms : List Atom) (text : List ℕ) → Decides (is_match atoms text) (Matches atoms text)
