-- SPDX-License-Identifier: Apache-2.0
-- Formats of numbers: signs, brackets and commas.
use Rattle.mtext.proofs.TextWords.{◌≡◌, ℕ, ℤ, zero, suc, ◌+◌, ◌-◌, ◌<◌, ◌≤◌, Bool, true, false, List, [], ◌∷◌, ◌++◌, length, length-append, length-drop, drop}
use Rattle.mtext.proofs.TextWords.{get_or, refl, sym, ap, ◌∙◌, add-one, arith, cond, pos, nat_tests, replicate}
use Rattle.std.specs.Prelude.{◌/◌, ◌%◌, ◌==◌, ◌&&◌, nat_lt, negsuc, if◌then◌else◌}
use Rattle.std.proofs.Math.Seq.{drop-cons}
use Rattle.std.proofs.lemmas.List.{length-replicate}
use Rattle.mspec.specs.Number.{is_below_zero}
use Rattle.mspec.specs.Interpretations.{is_true}
use Rattle.mspec.specs.NumberFormats.{has_plus, has_no_minus, sign_of, bracket_of, grouped}
use Rattle.mspec.proofs.ListPlaces.{none_left}
use Rattle.mtext.specs.Made.{comma_before}

pub sign_below : (format : List ℕ) (u : ℤ) → true ≡ is_below_zero u → sign_of format u ≡ (if has_no_minus format then [] else 45 ∷ [])
sign_below format (pos n) e = cc
sign_below format (negsuc n) e = refl

pub sign_above : (format : List ℕ) (u : ℤ) → false ≡ is_below_zero u → true ≡ is_true u → sign_of format u ≡ (if has_plus format then 43 ∷ [] else [])
sign_above format (pos zero) e some = cc
sign_above format (pos (suc n)) e some = refl
sign_above format (negsuc n) e some = cc

pub bracket_below : (bracket : ℕ) (u : ℤ) → true ≡ is_below_zero u → bracket_of bracket u ≡ bracket ∷ []
bracket_below bracket (pos n) e = cc
bracket_below bracket (negsuc n) e = refl

pub bracket_else : (bracket : ℕ) (u : ℤ) → false ≡ is_below_zero u → bracket_of bracket u ≡ 32 ∷ []
bracket_else bracket (pos n) e = refl
bracket_else bracket (negsuc n) e = cc

-- ---- commas

-- one digit, and a comma if the digits after it are whole threes
pub grouped_first : (d : ℕ) (ds : List ℕ) → grouped (d ∷ ds) ≡ (if nat_lt 0 (length ds) && (length ds % 3 == 0) then d ∷ 44 ∷ grouped ds else d ∷ grouped ds)
unfolding grouped
grouped_first d ds = refl

pub grouped_none : grouped [] ≡ []
unfolding grouped
grouped_none = refl

pub grouped_length : (ds : List ℕ) → length (grouped ds) ≡ length ds + (length ds - 1) / 3
grouped_length [] = ap length grouped_none
grouped_length (d ∷ ds) = ap length (grouped_first d ds) ∙ counted d ds (grouped_length ds)
  where
    counted : (d : ℕ) (ds : List ℕ) → length (grouped ds) ≡ length ds + (length ds - 1) / 3 → length (if nat_lt 0 (length ds) && (length ds % 3 == 0) then d ∷ 44 ∷ grouped ds else d ∷ grouped ds) ≡ suc (length ds) + (suc (length ds) - 1) / 3
    counted d ds rest = grind (arith, nat_tests)

-- the digits from a place on: the one there, the comma after it if there is one, and the others
grouped_next : (d : ℕ) (ds : List ℕ) → grouped (d ∷ ds) ≡ (d ∷ comma_before (length ds)) ++ grouped ds
grouped_next d ds = grouped_first d ds ∙ parted (nat_lt 0 (length ds) && (length ds % 3 == 0)) d (grouped ds)
  where
    parted : (b : Bool) (d : ℕ) (rest : List ℕ) → cond b (d ∷ 44 ∷ rest) (d ∷ rest) ≡ (d ∷ cond b (44 ∷ []) []) ++ rest
    parted true d rest = refl
    parted false d rest = refl

pub grouped_at : (ds : List ℕ) (i : ℕ) → i < length ds → grouped (drop i ds) ≡ (get_or ds i 0 ∷ comma_before (length ds - i - 1)) ++ grouped (drop (i + 1) ds)
grouped_at ds i within =
    let d : ℕ = get_or ds i 0 in
    let left : length (drop (i + 1) ds) ≡ length ds - i - 1 = length-drop (i + 1) ds ∙ omega arith in
    ap grouped (drop-cons ds i 0 within ∙ ap (λ k. d ∷ drop k ds) (sym (add-one i))) ∙ grouped_next d (drop (i + 1) ds) ∙ ap (λ n. (d ∷ comma_before n) ++ grouped (drop (i + 1) ds)) left

pub grouped_past : (ds : List ℕ) (i : ℕ) → length ds ≤ i → grouped (drop i ds) ≡ []
grouped_past ds i past = ap grouped (none_left i ds past) ∙ grouped_none

-- ---- the whole

-- its length, of the lengths of its parts
pub whole_length : (a b r w : List ℕ) (missing : ℕ) {x y : List ℕ} {n : ℕ} → x ≡ a → y ≡ b → n ≡ length w → length (a ++ (w ++ ((r ++ replicate missing 48) ++ b))) ≡ length x + length y + n + length r + missing
whole_length a b r w missing is_a is_b is_w =
    omega (
      arith,
      length-append a (w ++ ((r ++ replicate missing 48) ++ b)),
      length-append w ((r ++ replicate missing 48) ++ b),
      length-append (r ++ replicate missing 48) b,
      length-append r (replicate missing 48),
      length-replicate {A = ℕ} missing 48,
      ap length is_a,
      ap length is_b,
      is_w,
    )
