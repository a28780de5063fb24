-- SPDX-License-Identifier: Apache-2.0
-- Texts with their places.
use Rattle.mgrant.proofs.GrantWords.{◌≡◌, ◌⊎◌, ℕ, zero, suc, ◌<◌, Bool, true, false, cond, List, ◌∷◌, ◌++◌, length, get_or, Option, Some, None, IfSome, IfNone}
use Rattle.mgrant.proofs.GrantWords.{refl, sym, ap, subst, ◌∙◌, inl, inr, arith, slice_get, is_some, bytes_eq, [], list_any, lookup, KeepsOthers, IsKeyTest}
use Rattle.mgrant.proofs.GrantWords.{AreApart, bytes_decides, nat_list_eq_equiv, cases_Bool, cond-true, cond-false, false≢true, false_from_ne_true}
use Rattle.mgrant.proofs.GrantWords.{list_any_none, list_any_at, none-some, same_Some, slice_get-get_or, slice_get_within, get_or_from_slice_get, Text, text_eq}
use Rattle.mgrant.proofs.GrantWords.{Bytes, Places, found_at, IsIndex, IsPlaceOf}
use Rattle.std.specs.HashMap as hash

pub place_told : (texts : List Text) (places : Places) → IsIndex texts places → (text : Text) (r : Option ℕ) → r ≡ found_at places text → IfSome r (IsPlaceOf texts text)
place_told texts places index text None e = tt
place_told texts places index text (Some i) e = record {
  here = index.found text i (sym e);
  alone = λ j at. same_Some j i (sym (index.each text j at) ∙ sym e);
}

pub absence_told : (texts : List Text) (places : Places) → IsIndex texts places → (text : Text) (r : Option ℕ) → r ≡ found_at places text → IfNone r (list_any (text_eq text) texts ≡ false)
absence_told texts places index text (Some i) e = tt
absence_told texts places index text None e = list_any_none (text_eq text) texts (λ k d within.
    false_from_ne_true _ (λ same. none-some k (e ∙ index.each text k (slice_get-get_or texts k d within ∙ ap Some (sym ((bytes_decides text (get_or texts k d)).0 same))))))

pub place_any : (texts : List Text) (text : Text) (i : ℕ) → slice_get texts i ≡ Some text → list_any (text_eq text) texts ≡ true
place_any texts text i at = list_any_at (text_eq text) texts i text (slice_get_within texts i text at) ((bytes_decides text _).1 (sym (get_or_from_slice_get texts i text text at)))

pub found_any : (texts : List Text) (text : Text) (r : Option ℕ) → IfSome r (IsPlaceOf texts text) → is_some r ≡ true → list_any (text_eq text) texts ≡ true
found_any texts text None is e = absurd (false≢true e)
found_any texts text (Some i) is e = place_any texts text i is.here

pub found_none : (texts : List Text) (text : Text) (r : Option ℕ) → IfNone r (list_any (text_eq text) texts ≡ false) → is_some r ≡ false → list_any (text_eq text) texts ≡ false
found_none texts text None is e = is
found_none texts text (Some i) is e = absurd (false≢true (sym e))

-- ---- one more

abbrev pub same_bytes : Bytes → Bytes → Bool
same_bytes v w = bytes_eq v.items w.items

other_entries : {X : Type 0} (test : Bytes → Bool) (old new : List (Bytes × X)) → KeepsOthers same_bytes test old new → (other : Bytes → Bool) → IsKeyTest same_bytes other → AreApart test other → lookup other new ≡ lookup other old
unfolding KeepsOthers
other_entries test old new h = h

apart : (bs cs ks : Text) → bytes_eq bs cs ≡ false → bytes_eq bs ks ≡ true → bytes_eq cs ks ≡ false
apart bs cs ks n y = nat_list_eq_equiv.symm cs ks ∙ sym (nat_list_eq_equiv.congr bs ks cs y) ∙ n

-- what is found after a key was put
found_after : (m n : Places) (v : Bytes) (w : Option ℕ) → hash.UpdatesBy same_bytes (same_bytes v) m n w → (q : Text) → found_at n q ≡ cond (bytes_eq v.items q) w (found_at m q)
found_after m n v w u q =
    elim (cases_Bool (bytes_eq v.items q)) [
      | inl same ↦ subst (λ t. found_at n t ≡ w) ((bytes_decides v.items q).0 same) u.1 ∙ sym (cond-true (bytes_eq v.items q) w (found_at m q) same)
      | inr other ↦
          other_entries (same_bytes v) m.entries n.entries u.3 (λ k. bytes_eq q k.items) (λ x y. nat_list_eq_equiv.congr q x.items y.items) (λ k. apart v.items q k.items other)
          ∙ sym (cond-false (bytes_eq v.items q) w (found_at m q) other)
    ]

pub slice_get_front : {X : Type 0} (xs ys : List X) (i : ℕ) → i < length xs → slice_get (xs ++ ys) i ≡ slice_get xs i
slice_get_front [] ys i within = absurd (omega arith)
slice_get_front (x ∷ xs) ys zero within = refl
slice_get_front (x ∷ xs) ys (suc i) within = slice_get_front xs ys i (omega arith)

pub slice_get_at : {X : Type 0} (xs : List X) (x : X) (ys : List X) → slice_get (xs ++ x ∷ ys) (length xs) ≡ Some x
slice_get_at [] x ys = refl
slice_get_at (y ∷ xs) x ys = slice_get_at xs x ys

slice_get_end : {X : Type 0} (xs : List X) (x y : X) (i : ℕ) → slice_get (xs ++ x ∷ []) i ≡ Some y → (slice_get xs i ≡ Some y) ⊎ ((i ≡ length xs) × (x ≡ y))
slice_get_end [] x y zero e = inr (refl, same_Some x y e)
slice_get_end [] x y (suc i) e = absurd (none-some y e)
slice_get_end (z ∷ xs) x y zero e = inl e
slice_get_end (z ∷ xs) x y (suc i) e =
    elim (slice_get_end xs x y i e) [
      | inl before ↦ inl before
      | inr last ↦ inr (ap suc last.0, last.1)
    ]

-- a text that is not there goes to the end
pub index_more : (texts : List Text) (m n : Places) (v : Bytes) → IsIndex texts m → list_any (text_eq v.items) texts ≡ false → hash.UpdatesBy same_bytes (same_bytes v) m n (Some (length texts)) → IsIndex (texts ++ v.items ∷ []) n
index_more texts m n v index absent u = record {
  found = λ text i e.
      let after = sym (found_after m n v (Some (length texts)) u text) ∙ e in
      elim (cases_Bool (bytes_eq v.items text)) [
        | inl same ↦
            let place = same_Some (length texts) i (rw same at after) in
            subst (λ k. slice_get (texts ++ v.items ∷ []) k ≡ Some text) place (slice_get_at texts v.items [] ∙ ap Some ((bytes_decides v.items text).0 same))
        | inr other ↦
            let had = index.found text i (rw other at after) in
            slice_get_front texts (v.items ∷ []) i (slice_get_within texts i text had) ∙ had
      ];
  each = λ text i e.
      found_after m n v (Some (length texts)) u text ∙
      elim (slice_get_end texts v.items text i e) [
        | inl before ↦
            let other : bytes_eq v.items text ≡ false =
            false_from_ne_true _ (λ same. false≢true (sym absent ∙ list_any_at (text_eq v.items) texts i text (slice_get_within texts i text before) (ap (bytes_eq v.items) (get_or_from_slice_get texts i text text before) ∙ same))) in
            rw other (index.each text i before)
        | inr last ↦ rw ((bytes_decides v.items text).1 last.1) (ap Some (sym last.0))
      ];
}
