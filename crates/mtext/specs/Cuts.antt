-- SPDX-License-Identifier: Apache-2.0
-- Places at which a text is cut into its pieces.
use Rattle.std.specs.Prelude.{◌≡◌, ℕ, ◌≤◌, List, [], ◌∷◌, ◌++◌, length, take, drop}
use Rattle.std.specs.List.{flat_map}
use Rattle.mspec.specs.Pieces.{pieces_of}
use Rattle.mtext.specs.declared.delimiter.Delimiter.{Delimiter}
use Rattle.mtext.specs.declared.delimiter.Delimiter.TheVariants as delimiter

-- the text of a delimiter that was prepared for being searched for
abbrev pub delimiter_text : Delimiter → List ℕ
delimiter_text (delimiter.Character c) = c ∷ []
delimiter_text (delimiter.Text text) = text

-- the texts in a row, with d after each
abbrev pub closed : List ℕ → List (List ℕ) → List ℕ
closed d ps = flat_map (λ p. p ++ d) ps

-- place `at` of s is after its first n pieces and their delimiters
pub record IsBehind (d s : List ℕ) (n at : ℕ) : Type 0 where
  pub inside : at ≤ length s
  pub front : take at s ≡ closed d (take n (pieces_of d s))
  pub rest : pieces_of d (drop at s) ≡ drop n (pieces_of d s)
