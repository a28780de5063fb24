-- SPDX-License-Identifier: Apache-2.0
-- What there is from a key on and before the bytes that come next after it: the key alone.
use Rattle.mstore.proofs.Words.{◌≡◌, ◌≢◌, ◌⊎◌, ◌<◌, ℕ, true, false, List, [], ◌∷◌, ◌++◌, refl, sym, ap, subst, ◌∙◌, inl, inr, arith, Equal, Greater, and_parts}
use Rattle.mstore.proofs.Words.{and_from, false_from_ne_true, cases_order, nat_cmp_is, slice_cmp, ordering_then, Content, in_bounds, PutsAt, RemovesWithin}
use Rattle.mstore.proofs.Words.{MovesKey, true≢false, is_lt, is_le}
use Rattle.std.proofs.Common.{nat_cmp}
use Rattle.mspec.proofs.KeyRanges.{same_bytes}

-- a list from k on, and before k with a 0 after it
pub alone : (k q : List ℕ) → is_le (slice_cmp nat_cmp k q) ≡ true → is_lt (slice_cmp nat_cmp q (k ++ 0 ∷ [])) ≡ true → q ≡ k
alone [] [] from below = refl
alone [] (b ∷ q) from below = absurd (by_first (cases_order b 0))
  where
    rest : (o : List ℕ) → is_lt (slice_cmp nat_cmp o []) ≡ true → ⊥
    rest [] h = absurd (cc)
    rest (c ∷ o) h = absurd (cc)

    by_first : (b ≡ 0) ⊎ ((b < 0) ⊎ (0 < b)) → ⊥
    by_first (inl same) = rest q (subst (λ o. is_lt (ordering_then o (slice_cmp nat_cmp q [])) ≡ true) (sym (nat_cmp_is b 0 Equal same)) below)
    by_first (inr (inl less)) = absurd (omega (arith, less))
    by_first (inr (inr more)) = true≢false (sym (subst (λ o. is_lt (ordering_then o (slice_cmp nat_cmp q [])) ≡ true) (sym (nat_cmp_is b 0 Greater more)) below))
alone (a ∷ k) [] from below = absurd (cc)
alone (a ∷ k) (b ∷ q) from below = by_first (alone k q) (cases_order a b)
  where
    by_first : (is_le (slice_cmp nat_cmp k q) ≡ true → is_lt (slice_cmp nat_cmp q (k ++ 0 ∷ [])) ≡ true → q ≡ k) → (a ≡ b) ⊎ ((a < b) ⊎ (b < a)) → b ∷ q ≡ a ∷ k
    by_first h e = grind arith

pub before_next : (k : List ℕ) → is_lt (slice_cmp nat_cmp k (k ++ 0 ∷ [])) ≡ true
before_next [] = refl
before_next (a ∷ k) = subst (λ o. is_lt (ordering_then o (slice_cmp nat_cmp k (k ++ 0 ∷ []))) ≡ true) (nat_cmp_is a a Equal refl) (before_next k)

-- the range holds the key, and nothing else
holds_itself : (k : List ℕ) → in_bounds k (k ++ 0 ∷ []) k ≡ true
holds_itself k = and_from _ _ (ap is_le (same_bytes k k refl)) (before_next k)

holds_no_other : (k q : List ℕ) → q ≢ k → in_bounds k (k ++ 0 ∷ []) q ≡ false
holds_no_other k q other = false_from_ne_true (in_bounds k (k ++ 0 ∷ []) q) (λ within. let parts = and_parts _ _ within in other (alone k q parts.0 parts.1))

-- a key taken away, and its value put at another
pub key_moved : (old mid new : Content) (from to v next : List ℕ) → from ≢ to → next ≡ from ++ 0 ∷ [] → RemovesWithin old mid from next → PutsAt mid new to v → MovesKey old new from to v
key_moved old mid new from to v next apart is gone put =
    let removed : RemovesWithin old mid from (from ++ 0 ∷ []) = subst (RemovesWithin old mid from) is gone in
    record {
      at = λ _. put.at;
      gone = λ _. put.others from apart ∙ removed.gone from (holds_itself from);
      same = λ e. absurd (apart e);
      others = λ q other_from other_to. put.others q other_to ∙ removed.others q (holds_no_other from q other_from);
    }
