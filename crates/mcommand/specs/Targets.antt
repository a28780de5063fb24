-- SPDX-License-Identifier: Apache-2.0
-- Where DO and GOTO lead, as the definitions have it.
use Rattle.std.specs.Prelude.{ℕ, Bool, false, not, ◌==◌, List, ◌∷◌, position, slice_get}
use Rattle.mspec.specs.Code.{M13, Zlevel}
use Rattle.mspec.specs.Act.{Text, Act, ◌>>=◌, ◌>>◌, give, give_some, unless}
use Rattle.mgrammar.specs.Grammar.{EntryTree}
use Rattle.mmeaning.specs.Levels as levels
use Rattle.mmeaning.specs.Levels.{is_entry, has_dots}
use Rattle.mcommand.specs.declared.target.Target.{Target}

-- the first characters of two texts differ, and neither is empty
abbrev pub begin_apart : Text → Text → Bool
begin_apart (x ∷ xs) (y ∷ ys) = not (x == y)
begin_apart xs ys = false

abbrev pub target_view : Target → levels.Target
target_view t = record { copy = t.copy.value.items; line = t.line }

-- the line that is meant in a language, among these
abbrev pub target_among : (language : ℕ) → List Text → ℕ → EntryTree → Act levels.Target
target_among l lines dots e = do
  n ← give_some M13 (position (is_entry l e) lines)
  unless Zlevel (has_dots l dots (slice_get lines n))
  give (record { copy = lines; line = n })
