-- SPDX-License-Identifier: Apache-2.0
-- What a search for a text finds, in the words of the definitions.
use Rattle.mtext.proofs.TextWords.{◌≡◌, ℕ, zero, suc, ◌+◌, ◌-◌, Bool, true, false, List, [], ◌∷◌, ◌++◌, length, take, drop, Option, Some, None, refl, sym, ap}
use Rattle.mtext.proofs.TextWords.{subst, ◌∙◌, arith, cond, option_map, unwrap_or, min, ℤ, pos, take_rest, drop_min, drop-append_seam, take-append_seam}
use Rattle.mtext.proofs.TextWords.{IsFirst, IsFirstByte, Passes, is_byte, OccursAt, FindsNeedle, NoneBefore, OccursAt-part, OccursAt-from_part, OccursAt-split}
use Rattle.mtext.proofs.TextWords.{begins_with, first_place, from_place, find_of, begins_split, begins_append, length-append}
use Rattle.memchr.proofs.lemmas.FindLemmas.{IsFirst-agree, IsFirst-wider, OccursAt-byte, byte-OccursAt}

-- what comes after the front of a text occurs there
pub occurs_behind : (before t after : List ℕ) → OccursAt (before ++ (t ++ after)) t (length before)
occurs_behind before t after =
    OccursAt-from_part (before ++ (t ++ after)) t (length before) (omega (arith, length-append before (t ++ after), length-append t after))
    (ap (take (length t)) (drop-append_seam before (t ++ after)) ∙ take-append_seam t after)

begins_occurs : (t s : List ℕ) → begins_with t s ≡ true → OccursAt s t 0
begins_occurs t s begun =
    let split = begins_split t s begun in
    subst (λ u. OccursAt u t 0) (sym split.1) (occurs_behind [] t split.0)

occurs_begins : (t s : List ℕ) → OccursAt s t 0 → begins_with t s ≡ true
occurs_begins t s occurs = ap (begins_with t) (OccursAt-split s t 0 occurs) ∙ begins_append t (drop (0 + length t) s)

occurs_later : (t s : List ℕ) (x k : ℕ) → OccursAt s t k → OccursAt (x ∷ s) t (suc k)
occurs_later t s x k occurs = OccursAt-from_part (x ∷ s) t (suc k) (omega (arith, occurs.fits)) (OccursAt-part s t k occurs)

occurs_sooner : (t s : List ℕ) (x k : ℕ) → OccursAt (x ∷ s) t (suc k) → OccursAt s t k
occurs_sooner t s x k occurs = OccursAt-from_part s t k (omega (arith, occurs.fits)) (OccursAt-part (x ∷ s) t (suc k) occurs)

-- the first place in an empty text, where b says whether t is empty
first_in_empty : (t : List ℕ) (b : Bool) → begins_with t [] ≡ b → (r : Option ℕ) → FindsNeedle [] t 0 r → cond b (Some 0) None ≡ r
first_in_empty t true begun None finds = absurd (finds 0 (omega arith) (omega arith) (begins_occurs t [] begun))
first_in_empty t true begun (Some k) finds = let low = finds.0.high in let zero' : k ≡ 0 = omega arith in ap Some (sym zero')
first_in_empty t false begun None finds = refl
first_in_empty t false begun (Some zero) finds = let yes' = occurs_begins t [] finds.1 in absurd cc
first_in_empty t false begun (Some (suc k)) finds = absurd (omega (arith, finds.0.high))

-- the first place in another, where b says whether it begins with t
first_in_more : (t s : List ℕ) (x : ℕ) (b : Bool) → begins_with t (x ∷ s) ≡ b → ((r : Option ℕ) → FindsNeedle s t 0 r → first_place t s ≡ r)
    → (r : Option ℕ) → FindsNeedle (x ∷ s) t 0 r → cond b (Some 0) (option_map suc (first_place t s)) ≡ r
first_in_more t s x true begun later None finds = absurd (finds 0 (omega arith) (omega arith) (begins_occurs t (x ∷ s) begun))
first_in_more t s x true begun later (Some zero) finds = refl
first_in_more t s x true begun later (Some (suc k)) finds = absurd (finds.0.before 0 (omega arith) (omega arith) (begins_occurs t (x ∷ s) begun))
first_in_more t s x false begun later None finds =
    ap (option_map suc) (later None (λ k low high occurs. finds (suc k) (omega arith) (omega arith) (occurs_later t s x k occurs)))
first_in_more t s x false begun later (Some zero) finds = let yes' = occurs_begins t (x ∷ s) finds.1 in absurd cc
first_in_more t s x false begun later (Some (suc k)) finds =
    let sooner : NoneBefore (OccursAt s t) 0 (length s + 1) k = record {
      low = omega arith;
      high = omega (arith, finds.0.high);
      before = λ q low high occurs. finds.0.before (suc q) (omega arith) (omega arith) (occurs_later t s x q occurs);
    } in
    ap (option_map suc) (later (Some k) (sooner, occurs_sooner t s x k finds.1))

-- what a search finds is the first place
pub first_place_is : (t s : List ℕ) (r : Option ℕ) → FindsNeedle s t 0 r → first_place t s ≡ r
unfolding first_place
first_place_is t [] r finds = first_in_empty t (begins_with t []) refl r finds
first_place_is t (x ∷ s) r finds = first_in_more t s x (begins_with t (x ∷ s)) refl (first_place_is t s) r finds

-- ---- a search in the rest of a text

pub in_rest : (s t : List ℕ) (at : ℕ) (r : Option ℕ) → FindsNeedle (take (length s - at) (drop at s)) t 0 r → FindsNeedle (drop at s) t 0 r
in_rest s t at r finds = subst (λ u. FindsNeedle u t 0 r) (take_rest s at) finds

-- $FIND by a search after the places before `from`
pub find_is : (s t : List ℕ) (from : Option ℤ) (start n : ℕ) (r : Option ℕ) → start ≡ from_place (unwrap_or from (pos 1))
    → n ≡ min (start - 1) (length s) → FindsNeedle (take (length s - n) (drop n s)) t 0 r
    → unwrap_or (option_map (λ k. start + k + length t) r) 0 ≡ find_of s t from
find_is s t from start n r same is_n finds =
    let first = from_place (unwrap_or from (pos 1)) in
    let rest : drop n s ≡ drop (first - 1) s = ap (λ (k : ℕ). drop k s) is_n ∙ drop_min (start - 1) s ∙ ap (λ (k : ℕ). drop (k - 1) s) same in
    let at = first_place_is t (drop (first - 1) s) r (subst (λ u. FindsNeedle u t 0 r) rest (in_rest s t n r finds)) in
    ap (λ (m : ℕ). unwrap_or (option_map (λ k. m + k + length t) r) 0) same
    ∙ ap (λ (o : Option ℕ). unwrap_or (option_map (λ k. first + k + length t) o) 0) (sym at)

-- ---- a search for one character

-- what a search for a character finds is its first place
pub character_place_is : (c : ℕ) (s : List ℕ) (r : Option ℕ) → IsFirstByte (is_byte c) s r → first_place (c ∷ []) s ≡ r
character_place_is c s r finds =
    let t = c ∷ [] in
    let agrees : IsFirst (OccursAt s t) 0 (length s) r =
    IsFirst-agree (Passes (is_byte c) s) (OccursAt s t) 0 (length s) (OccursAt-byte s t refl) (λ k high occurs. byte-OccursAt s t refl k occurs) r finds in
    first_place_is t s r (IsFirst-wider (OccursAt s t) 0 (length s) (length s + 1) (omega arith) (λ k occurs. omega (arith, occurs.fits)) r agrees)
