-- SPDX-License-Identifier: Apache-2.0
-- The pieces of a text.
--
-- Restates the pieces of "$PIECE" of ISO/IEC 11756:1999: the pieces of a text, by a delimiter that is not empty, are the
-- texts between the delimiters, which are taken at the leftmost places, from left to right without overlap.
use Rattle.std.specs.Prelude.{◌≡◌, ◌≢◌, ℕ, zero, suc, ◌-◌, Bool, true, false, ◌&&◌, ◌==◌, List, [], ◌∷◌, ◌++◌, length, if◌then◌else◌}
use Rattle.std.specs.List.{onto_first}

-- the texts in a row, with d between each two
abbrev pub join : List ℕ → List (List ℕ) → List ℕ
join d [] = []
join d (p ∷ []) = p
join d (p ∷ q ∷ ps) = p ++ (d ++ join d (q ∷ ps))

-- d occurs nowhere in s
abbrev pub Lacks : List ℕ → List ℕ → Type 0
Lacks d s = (before after : List ℕ) → s ≢ before ++ (d ++ after)

-- d occurs nowhere in s but at its end
abbrev pub OnlyAtEnd : List ℕ → List ℕ → Type 0
OnlyAtEnd d s = (before after : List ℕ) → s ≡ before ++ (d ++ after) → after ≡ []

-- at least one text; the last doesn't contain d, and in each other followed by d, d occurs only at the end
abbrev pub AreCut : List ℕ → List (List ℕ) → Type 0
AreCut d [] = ⊥
AreCut d (p ∷ []) = Lacks d p
AreCut d (p ∷ q ∷ ps) = OnlyAtEnd d (p ++ d) × AreCut d (q ∷ ps)

-- ps are the pieces of s by d
pub record ArePieces (d s : List ℕ) (ps : List (List ℕ)) : Type 0 where
  pub joined : join d ps ≡ s
  pub cut : AreCut d ps

-- s begins with d
abbrev pub begins_with : List ℕ → List ℕ → Bool
begins_with [] s = true
begins_with (x ∷ d) [] = false
begins_with (x ∷ d) (y ∷ s) = x == y && begins_with d s

-- the pieces of a text, after passing over the characters that are left of a delimiter
abbrev pub cut_after : ℕ → List ℕ → List ℕ → List (List ℕ)
cut_after left d [] = [] ∷ []
cut_after (suc left) d (x ∷ s) = cut_after left d s
cut_after zero d (x ∷ s) =
    if begins_with d (x ∷ s) then [] ∷ cut_after (length d - 1) d s else onto_first x (cut_after 0 d s)

-- the pieces of s by d; by the empty text there are none
unfoldable pub pieces_of : List ℕ → List ℕ → List (List ℕ)
pieces_of [] s = []
pieces_of (c ∷ d) s = cut_after 0 (c ∷ d) s
