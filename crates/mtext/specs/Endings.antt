-- SPDX-License-Identifier: Apache-2.0
-- Where the segment of the first atom of a pattern ends in a text, if that is known from the atom and the one after it.
use Rattle.std.specs.Prelude.{◌≡◌, ℕ, ◌≤◌, ◌↔◌, Bool, false, List, [], ◌∷◌, length, drop, Option, Some, None}
use Rattle.mspec.specs.Pattern as plain
use Rattle.mspec.specs.Pattern.{Matches, is_in_any}
use Rattle.mtext.specs.ClassSets.{is_in_set}
use Rattle.mtext.specs.PatternPlaces.{count_of}
use Rattle.mtext.specs.declared.ending.LentAtom.{LentAtom}
use Rattle.mtext.specs.declared.ending.LentRepeated.{LentRepeated}
use Rattle.mtext.specs.declared.ending.LentRepeated.TheVariants as lent
use Rattle.mtext.specs.declared.ending.Ending.{Ending}
use Rattle.mtext.specs.declared.ending.Ending.TheVariants as ending

-- what is lent says what an atom repeats, or nothing of it
abbrev pub Repeats : LentRepeated → plain.Repeated → Type 0
Repeats (lent.Members set) (plain.members codes) = (c : ℕ) → is_in_set set c ≡ is_in_any codes c
Repeats (lent.Members set) (plain.copies string) = ⊥
Repeats (lent.Members set) (plain.passing test) = ⊥
Repeats (lent.Copies text) (plain.members codes) = ⊥
Repeats (lent.Copies text) (plain.copies string) = text.now ≡ string
Repeats (lent.Copies text) (plain.passing test) = ⊥
Repeats lent.Any what = Unit {0}

abbrev pub IsLent : LentAtom → plain.Atom → Type 0
IsLent lent atom = (count_of lent.count ≡ atom.count) × Repeats lent.repeated atom.repeated

-- the first of the atoms, or none
abbrev pub IsFirstOf : Option LentAtom → List plain.Atom → Type 0
IsFirstOf None atoms = atoms ≡ []
IsFirstOf (Some lent) [] = ⊥
IsFirstOf (Some lent) (atom ∷ atoms) = IsLent lent atom

-- the segment of the atom ends after this many characters, or nowhere, whichever way the others match
abbrev pub IsEnding : List ℕ → plain.Atom → List plain.Atom → Ending → Type 0
IsEnding text atom atoms (ending.Behind at) = (at ≤ length text) × (Matches (atom ∷ atoms) text ↔ Matches atoms (drop at text))
IsEnding text atom atoms ending.Nowhere = Matches (atom ∷ atoms) text → ⊥
IsEnding text atom atoms ending.Open = Unit {0}

-- a text that begins with a character that fails the test
abbrev pub IsOtherwise : (ℕ → Bool) → List ℕ → Type 0
IsOtherwise p [] = ⊥
IsOtherwise p (c ∷ s) = p c ≡ false

-- a text that is empty or begins so
abbrev pub IsBarred : (ℕ → Bool) → List ℕ → Type 0
IsBarred p [] = Unit {0}
IsBarred p (c ∷ s) = p c ≡ false

-- each text that the atoms match is empty or begins so
abbrev pub NoneBegins : (ℕ → Bool) → List plain.Atom → Type 0
NoneBegins p atoms = (text : List ℕ) → Matches atoms text → IsBarred p text

-- an atom of members, and one of copies
abbrev pub members_atom : plain.Count → List plain.PatternCode → plain.Atom
members_atom count codes = record { count = count; repeated = plain.members codes }

abbrev pub copies_atom : plain.Count → List ℕ → plain.Atom
copies_atom count string = record { count = count; repeated = plain.copies string }
