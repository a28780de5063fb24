-- SPDX-License-Identifier: Apache-2.0
-- Pattern match: the texts that a pattern matches.
--
-- Restates "Pattern match pattern" of ISO/IEC 11756:1999, with its parts `patatom`, `repcount`, `patcode` and `strlit`. A
-- text matches if it is a joining of segments, one for each atom in turn. Nothing is searched for here: how a text is cut into
-- its segments is left open, and one way of cutting is enough.
use Rattle.std.specs.Prelude.{◌≡◌, ℕ, zero, suc, ◌≤◌, Bool, true, false, not, ◌&&◌, ◌||◌, ◌==◌, nat_le, List, [], ◌∷◌, ◌++◌, length, Option, Some, None}
use Rattle.mspec.specs.Literal.{is_digit}
use Rattle.mspec.specs.Names.{is_letter, is_character, AllAre}

-- ---- classes of characters; of 128 characters, so that a byte over 127 is in none

abbrev pub is_upper : ℕ → Bool
is_upper c = nat_le 65 c && nat_le c 90

abbrev pub is_lower : ℕ → Bool
is_lower c = nat_le 97 c && nat_le c 122

abbrev pub is_control : ℕ → Bool
is_control c = nat_le c 31 || c == 127

-- the 33 others, of which the space is one
abbrev pub is_punctuation : ℕ → Bool
is_punctuation c = is_character c && not (is_control c || is_letter c || is_digit c)

-- `patcode`, in the order of its letters: A, C, E, L, N, P, U
pub data PatternCode : Type 0 where
  letter : PatternCode
  control : PatternCode
  everything : PatternCode
  lower : PatternCode
  numeral : PatternCode
  punctuation : PatternCode
  upper : PatternCode

abbrev pub is_in : PatternCode → ℕ → Bool
is_in letter c = is_letter c
is_in control c = is_control c
is_in everything c = is_character c
is_in lower c = is_lower c
is_in numeral c = is_digit c
is_in punctuation c = is_punctuation c
is_in upper c = is_upper c

-- a character of the class of one of the codes
abbrev pub is_in_any : List PatternCode → ℕ → Bool
is_in_any [] c = false
is_in_any (code ∷ codes) c = is_in code c || is_in_any codes c

-- ---- counts

-- `repcount`: n is from n to n, `n.` from n on, `.n` up to n, `n.m` from n to m, and `.` any
pub record Count : Type 0 where
  pub least : ℕ
  pub most : Option ℕ

abbrev pub IsAtMost : Option ℕ → ℕ → Type 0
IsAtMost None n = Unit {0}
IsAtMost (Some most) n = n ≤ most

abbrev pub IsPermitted : Count → ℕ → Type 0
IsPermitted count n = (count.least ≤ n) × IsAtMost count.most n

-- ---- patterns

-- what an atom repeats: members of classes, each of any of them; a string; or texts that pass a test, each by itself, which of a group
-- in brackets is that one of its patterns matches
pub data Repeated : Type 0 where
  members : List PatternCode → Repeated
  copies : List ℕ → Repeated
  passing : (List ℕ → Bool) → Repeated

-- `patatom`
pub record Atom : Type 0 where
  pub count : Count
  pub repeated : Repeated

-- this many copies of a string, joined
abbrev pub copied : ℕ → List ℕ → List ℕ
copied zero string = []
copied (suc n) string = string ++ copied n string

-- a joining of this many texts, each of which passes the test
abbrev pub IsJoined : (List ℕ → Bool) → ℕ → List ℕ → Type 0
IsJoined test zero text = text ≡ []
IsJoined test (suc n) text = (front : List ℕ) × (last : List ℕ) × (text ≡ front ++ last) × IsJoined test n front × (test last ≡ true)

-- the text may be an atom's segment
abbrev pub IsRepetition : Count → Repeated → List ℕ → Type 0
IsRepetition count (members codes) text = AllAre (is_in_any codes) text × IsPermitted count (length text)
IsRepetition count (copies string) text = (n : ℕ) × IsPermitted count n × (text ≡ copied n string)
IsRepetition count (passing test) text = (n : ℕ) × IsPermitted count n × IsJoined test n text

abbrev pub IsSegment : Atom → List ℕ → Type 0
IsSegment atom text = IsRepetition atom.count atom.repeated text

-- a joining of segments, one for each atom in turn
abbrev pub Matches : List Atom → List ℕ → Type 0
Matches [] text = text ≡ []
Matches (atom ∷ atoms) text = (front : List ℕ) × (rest : List ℕ) × (text ≡ front ++ rest) × IsSegment atom front × Matches atoms rest
