-- SPDX-License-Identifier: Apache-2.0
-- The names of a list as they are met, whatever comes after them.
use Rattle.std.specs.Prelude.{ℕ, zero, suc, List, [], ◌∷◌, length, Option, Some, None}
use Rattle.mgrammar.specs.ReadingWords.{Read, ◌>>=◌, name_at, past}
use Rattle.mgrammar.specs.RoutineLine.{formals_by}

-- a name after a comma
abbrev pub next_name : List ℕ → Read (List ℕ)
next_name cs = past 44 cs >>= λ behind. name_at behind

-- a name, if one was met, and the names after it
abbrev pub names_by : (List ℕ → List (List ℕ)) → Option (List ℕ × List ℕ) → List (List ℕ)
names_by more None = []
names_by more (Some x) = x.0 ∷ more x.1

-- at most this many, each after a comma
unfoldable pub names_after : ℕ → List ℕ → List (List ℕ)
names_after zero cs = []
names_after (suc n) cs = names_by (names_after n) (next_name cs)

-- one at once, and all that come after commas
abbrev pub names_in : List ℕ → List (List ℕ)
names_in cs = names_by (λ rest. names_after (length rest) rest) (name_at cs)

-- a formal list that a text begins with, and the text after it
abbrev pub list_of_formals : List ℕ → Read (List (List ℕ))
list_of_formals cs = past 40 cs >>= λ inside. formals_by inside (past 41 inside)
