-- SPDX-License-Identifier: Apache-2.0
-- The laws of pieces and of places in texts. The functions of src/ named after them carry them.
use Rattle.std.specs.Prelude.{◌≡◌, ◌≢◌, ℕ, ◌≤◌, List, [], ◌++◌, length, MatchOption}
use Rattle.mspec.specs.Pieces.{ArePieces, Lacks, pieces_of}
use Rattle.mspec.specs.TextFunctions.{first_place}

-- by a delimiter that is not empty a text has one list of pieces, and `pieces_of` gives it
abbrev pub OneList : Type 0
OneList = (d s : List ℕ) → d ≢ [] → ArePieces d s (pieces_of d s) × ((ps qs : List (List ℕ)) → ArePieces d s ps → ArePieces d s qs → ps ≡ qs)

-- t occurs in s after n characters, and nowhere after fewer
pub record StandsFirst (t s : List ℕ) (n : ℕ) : Type 0 where
  pub before : List ℕ
  pub after : List ℕ
  pub whole : s ≡ before ++ (t ++ after)
  pub place : length before ≡ n
  pub first : (before after : List ℕ) → s ≡ before ++ (t ++ after) → n ≤ length before

-- the first place of a text in another is the first at which it occurs there, and there is none if it does not occur there
abbrev pub FirstPlace : Type 0
FirstPlace = (t s : List ℕ) → MatchOption (first_place t s) (Lacks t s) (λ n. StandsFirst t s n)
