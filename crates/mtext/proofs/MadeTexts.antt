-- SPDX-License-Identifier: Apache-2.0
-- Texts that are made part by part, and refused if they are too long.
use Rattle.mtext.proofs.TextWords.{◌≡◌, ℕ, zero, suc, ◌+◌, ◌*◌, ◌≤◌, ◌<◌, Bool, List, [], ◌∷◌, ◌++◌, length, refl, sym, ap, subst, ◌∙◌, arith, add-one, cond}
use Rattle.mtext.proofs.TextWords.{Option, Some, None, Result, Ok, Err, slice_get, MatchOption, IsErr, IsErrAnd, IsOk, option_copied, option_to_list, HoldsAt}
use Rattle.mtext.proofs.TextWords.{Bor, append_assoc, append-nil, repeat, le-leb, lt-leb, max_text, made, translated_at, first_place, translation, Answers}
use Rattle.mtext.proofs.TextWords.{length-append}
use Rattle.std.proofs.lemmas.Option.{slice_get_past, slice_get-get_or}
use Rattle.mspec.specs.Code.{Zlong}
use Rattle.mtext.specs.declared.fault.TextFault.{TextFault}
use Rattle.mtext.specs.declared.fault.TextFault.TheVariants.{TooLong, Memory}

pub is_made : (s : List ℕ) → length s ≤ max_text → made s ≡ Ok s
is_made s fits = ap (λ (b : Bool). cond b (Ok s) (Err Zlong)) (le-leb (length s) max_text fits)

-- the result of a `?` that returns
residual_is : {X E : Type 0} (r : Result X E) (e : E) → IsErr r × IsErrAnd r (λ x. x ≡ e) → r ≡ Err e
residual_is (Ok x) e h = let no' = h.0 in cc
residual_is (Err x) e h = ap Err h.1

-- a text that fits may run out of memory
wants_memory : (s : List ℕ) → length s ≤ max_text → Answers (made s) (Err Memory)
wants_memory s fits = subst (λ r. IsOk r) (sym (is_made s fits)) refl

-- the same of a `?` that returns
pub wanting : (s : List ℕ) (r : Result (List ℕ) TextFault) → length s ≤ max_text → IsErr r × IsErrAnd r (λ x. x ≡ Memory) → Answers (made s) r
wanting s r fits is = subst (λ x. Answers (made s) x) (sym (residual_is r Memory is)) (wants_memory s fits)

-- a text that does not fit is too long
too_long : (s : List ℕ) → max_text < length s → Answers (made s) (Err TooLong)
too_long s over = ap (λ (b : Bool). cond b (Ok s) (Err Zlong)) (lt-leb (length s) max_text over)

pub refused : (s : List ℕ) (fault : TextFault) (r : Result (List ℕ) TextFault) → max_text < length s → fault ≡ TooLong
    → IsErr r × IsErrAnd r (λ x. x ≡ fault) → Answers (made s) r
refused s fault r over long is = subst (λ x. Answers (made s) x) (sym (residual_is r fault is ∙ ap Err long)) (too_long s over)

-- the element at a place, as `get` gives it
pub got_is : (to : List ℕ) (k : ℕ) (r : Option (Bor ℕ)) → MatchOption r (length to ≤ k) (λ x. (k < length to) × HoldsAt (λ y. x.now ≡ y) to k)
    → option_copied r ≡ slice_get to k
got_is to k None past = sym (slice_get_past to k past)
got_is to k (Some x) here = ap Some (here.1 0) ∙ sym (slice_get-get_or to k 0 here.0)

-- the length of copies
pub length-repeat : (n : ℕ) (d : List ℕ) → length (repeat n d) ≡ n * length d
length-repeat zero d = omega arith
length-repeat (suc n) d = omega (arith, length-append d (repeat n d), length-repeat n d)

-- one copy more, at the end
pub repeat_more : (n : ℕ) (d : List ℕ) → repeat (n + 1) d ≡ repeat n d ++ d
repeat_more n d = ap (λ (m : ℕ). repeat m d) (add-one n) ∙ at_end n d where
  at_end : (n : ℕ) (d : List ℕ) → repeat (suc n) d ≡ repeat n d ++ d
  at_end zero d = append-nil d
  at_end (suc n) d = ap (λ t. d ++ t) (at_end n d) ∙ sym (append_assoc d (repeat n d) d)

-- the characters of a translation are no more than those translated
part_is_short : (to : List ℕ) (c : ℕ) (place : Option ℕ) → length (translated_at to c place) ≤ 1
part_is_short to c None = omega arith
part_is_short to c (Some k) = elim (slice_get to k) as (λ x. length (option_to_list x) ≤ 1) [ None ↦ omega arith | Some y ↦ omega arith ]

pub translation_is_short : (s from to : List ℕ) → length (translation s from to) ≤ length s
translation_is_short [] from to = omega arith
translation_is_short (c ∷ s) from to =
    let part = translated_at to c (first_place (c ∷ []) from) in
    omega (arith, length-append part (translation s from to), part_is_short to c (first_place (c ∷ []) from), translation_is_short s from to)

pub same_translation : (s s' from from' to to' : List ℕ) → s ≡ s' → from ≡ from' → to ≡ to' → translation s from to ≡ translation s' from' to'
same_translation s s' from from' to to' e f g =
    ap (λ x. translation x from to) e ∙ ap (λ x. translation s' x to) f ∙ ap (λ x. translation s' from' x) g
