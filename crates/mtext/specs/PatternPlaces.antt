-- SPDX-License-Identifier: Apache-2.0
-- The patterns of the code as plain ones, and the places of a text: how many of its characters come before them. A list of
-- marks has one for each place from 0 to the text's length.
use Rattle.std.specs.Prelude.{◌≡◌, ℕ, ◌+◌, ◌-◌, ◌≤◌, ◌==◌, Bool, true, false, List, map, length, get_or, slice_range, Decides, Option, Some, None}
use Rattle.mspec.specs.Pattern as plain
use Rattle.mspec.specs.Pattern.{IsPermitted, IsRepetition}
use Rattle.mtext.specs.declared.pattern.PatternCode.{PatternCode}
use Rattle.mtext.specs.declared.pattern.PatternCode.TheVariants as code
use Rattle.mtext.specs.declared.pattern.CopiesBefore.{CopiesBefore}
use Rattle.mtext.specs.declared.pattern.Count.{Count}
use Rattle.mtext.specs.declared.pattern.Repeated.{Repeated}
use Rattle.mtext.specs.declared.pattern.Repeated.TheVariants as repeated
use Rattle.mtext.specs.declared.pattern.Atom.{Atom}

abbrev pub code_of : PatternCode → plain.PatternCode
code_of code.A = plain.letter
code_of code.C = plain.control
code_of code.E = plain.everything
code_of code.L = plain.lower
code_of code.N = plain.numeral
code_of code.P = plain.punctuation
code_of code.U = plain.upper

abbrev pub codes_of : List PatternCode → List plain.PatternCode
codes_of codes = map code_of codes

abbrev pub count_of : Count → plain.Count
count_of count = record { least = count.least; most = count.most }

abbrev pub repeated_of : Repeated → plain.Repeated
repeated_of (repeated.Members codes) = plain.members (codes_of codes.items)
repeated_of (repeated.Copies string) = plain.copies string

abbrev pub atom_of : Atom → plain.Atom
atom_of atom = record { count = count_of atom.count; repeated = repeated_of atom.repeated }

-- what is so is between one of the marked places and this one
abbrev pub IsLed : List ℕ → (List ℕ → Type 0) → List Bool → ℕ → Type 0
IsLed text P starts place = (start : ℕ) × (start ≤ place) × (get_or starts start false ≡ true) × P (slice_range text start place)

-- the marks of the places to which what is so leads from one of the marked places
pub record AreLed (text : List ℕ) (P : List ℕ → Type 0) (starts : List Bool) (ends : List Bool) : Type 0 where
  pub size : length ends ≡ length text + 1
  pub each : (place : ℕ) → place ≤ length text → Decides (get_or ends place false) (IsLed text P starts place)

-- what is so is a repetition
abbrev pub IsEnd : List ℕ → plain.Count → plain.Repeated → List Bool → ℕ → Type 0
IsEnd text count what starts place = IsLed text (IsRepetition count what) starts place

abbrev pub AreEnds : List ℕ → plain.Count → plain.Repeated → List Bool → List Bool → Type 0
AreEnds text count what starts ends = AreLed text (IsRepetition count what) starts ends

-- one mark, at the place 0
pub record AreFirst (text : List ℕ) (marks : List Bool) : Type 0 where
  pub size : length marks ≡ length text + 1
  pub each : (place : ℕ) → place ≤ length text → get_or marks place false ≡ (place == 0)

-- what may be repeated extends from `first` on: whether the latest start that is far enough back is also near enough
abbrev pub IsNear : Option ℕ → Option ℕ → ℕ → ℕ → Type 0
IsNear most None first place = ⊥
IsNear most (Some start) first place = (first ≤ start) × plain.IsAtMost most (place - start)

-- the string is right before the place
abbrev pub IsBefore : List ℕ → List ℕ → ℕ → Type 0
IsBefore text string place = (length string ≤ place) × (slice_range text (place - length string) place ≡ string)

-- `number` copies are between one of the marked places and this one
abbrev pub IsCopiedTo : List ℕ → List ℕ → List Bool → ℕ → ℕ → Type 0
IsCopiedTo text string starts place number =
    (start : ℕ) × (start ≤ place) × (get_or starts start false ≡ true) × (slice_range text start place ≡ plain.copied number string)

-- `number` copies are right before the place
abbrev pub IsCopied : List ℕ → List ℕ → ℕ → ℕ → Type 0
IsCopied text string place number = (start : ℕ) × (start ≤ place) × (slice_range text start place ≡ plain.copied number string)

-- that many copies, and no more, are right before the place
pub record IsNumber (text string : List ℕ) (starts : List Bool) (place number : ℕ) : Type 0 where
  pub stand : (n : ℕ) → n ≤ number → IsCopied text string place n
  pub most : (n : ℕ) → IsCopiedTo text string starts place n → n ≤ number

-- the fewest that are between one of the marked places and this one, of those that are at least `least`; it is above `number` if none are
pub record IsFewest (text string : List ℕ) (least : ℕ) (starts : List Bool) (place number fewest : ℕ) : Type 0 where
  pub near : fewest ≤ number + 1
  pub serve : fewest ≤ number → (least ≤ fewest) × IsCopiedTo text string starts place fewest
  pub each : (n : ℕ) → least ≤ n → IsCopiedTo text string starts place n → fewest ≤ n

abbrev pub AreCopiesBefore : List ℕ → List ℕ → ℕ → List Bool → ℕ → CopiesBefore → Type 0
AreCopiesBefore text string least starts place found =
    IsNumber text string starts place found.number × IsFewest text string least starts place found.number found.fewest

abbrev pub no_copies : CopiesBefore
no_copies = record { number = 0; fewest = 0 }
