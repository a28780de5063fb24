-- SPDX-License-Identifier: Apache-2.0
-- Tallies of one name, and of all the names above one.
use Rattle.mlock.proofs.LockWords.{◌||◌, ◌≡◌, ℕ, Bool, true, false, cond, Option, Some, None, refl, sym, ap, ◌∙◌, subst, arith, unwrap_or, is_some, IsSome}
use Rattle.mlock.proofs.LockWords.{true≢false, inl, inr, false_from_ne_true, cases_Bool, IndexMap, get, Updates, LockName, IsAbove, Tally, name_eq, is_under}
use Rattle.mlock.proofs.LockWords.{no_names, with_one, is_none, tally_at, HasEntry}
use Rattle.mlock.proofs.Names.{at_test}
use Rattle.mlock.proofs.Under.{is_same, above_is, not_itself, others_above, from_above}

-- ---- the entry of one name

pub absent_from : {A : Type 0} (o : Option A) → is_some o ≡ false → o ≡ None
absent_from o h = grind arith

module _ {S : Type 0} (m n : IndexMap LockName Tally S) (k : LockName) where
  -- the tallies after an entry is written or taken away
  pub written : (w : Option Tally) → Updates name_eq m n k w → (q : LockName) → tally_at n q ≡ cond (name_eq k q) (unwrap_or w no_names) (tally_at m q)
  written w u q = grind arith

  pub keeps : (w : Tally) → Updates name_eq m n k (Some w) → (q : LockName) → HasEntry m q → HasEntry n q
  keeps w u q some = subst IsSome (sym (u.0 q)) (elim (name_eq k q) as (λ b. IsSome (cond b (Some w) (get name_eq m q))) [ true ↦ refl | false ↦ some ])

  -- an entry of no name changes no tally
  pub made_same : Updates name_eq m n k (Some no_names) → get name_eq m k ≡ None → (q : LockName) → tally_at n q ≡ tally_at m q
  made_same u none q =
      written (Some no_names) u q
      ∙ at_test (name_eq k q) (λ b. cond b no_names (tally_at m q) ≡ tally_at m q) (λ e. sym (ap (λ o. unwrap_or o no_names) (ap (get name_eq m) (sym (is_same k q e)) ∙ none))) (λ e. refl)

  module _ (t : ℕ) where
    -- one name more at this one
    pub counted : ((q : LockName) → tally_at n q ≡ cond (name_eq k q) (with_one t (tally_at m k)) (tally_at m q))
        → (q : LockName) → tally_at n q ≡ cond (name_eq k q) (with_one t (tally_at m q)) (tally_at m q)
    counted is q =
        is q
        ∙ at_test (name_eq k q) (λ b. cond b (with_one t (tally_at m k)) (tally_at m q) ≡ cond b (with_one t (tally_at m q)) (tally_at m q)) (λ e. ap (λ p. with_one t (tally_at m p)) (is_same k q e)) (λ e. refl)

    -- one name less at this one
    pub taken_off : (rest : Tally) → with_one t rest ≡ tally_at m k → ((q : LockName) → tally_at n q ≡ cond (name_eq k q) rest (tally_at m q))
        → (q : LockName) → tally_at m q ≡ cond (name_eq k q) (with_one t (tally_at n q)) (tally_at n q)
    taken_off rest one is q =
        at_test (name_eq k q) (λ b. tally_at n q ≡ cond b rest (tally_at m q) → tally_at m q ≡ cond b (with_one t (tally_at n q)) (tally_at n q))
        (λ e here. ap (tally_at m) (sym (is_same k q e)) ∙ sym one ∙ ap (with_one t) (sym here)) (λ e here. sym here) (is q)

-- an entry that is left as it was, and then taken away
pub twice_written : {S : Type 0} (m l n : IndexMap LockName Tally S) (k : LockName) (v w : Tally) → ((q : LockName) → tally_at l q ≡ cond (name_eq k q) v (tally_at m q))
    → ((q : LockName) → tally_at n q ≡ cond (name_eq k q) w (tally_at l q)) → (q : LockName) → tally_at n q ≡ cond (name_eq k q) w (tally_at m q)
twice_written m l n k v w first second q = second q ∙ ap (cond (name_eq k q) w) (first q) ∙ elim (name_eq k q) as (λ b. cond b w (cond b v (tally_at m q)) ≡ cond b w (tally_at m q)) [ true ↦ refl | false ↦ refl ]

pub none_is : (a : Tally) → is_none a ≡ true → a ≡ no_names
none_is a e = grind arith

-- the same, if both or neither have it
pub rest_is : (b : Bool) (t : ℕ) (x y : Tally) → cond b (with_one t x) x ≡ cond b (with_one t y) y → x ≡ y
rest_is b t x y h = grind arith

-- ---- the names above one

-- one step and another, at most one of which changes anything
twofold : (f : Tally → Tally) (x y z : Tally) (p q : Bool) → (p ≡ true → q ≡ false) → y ≡ cond p (f x) x → z ≡ cond q (f y) y → z ≡ cond (p || q) (f x) x
twofold f x y z p q h e k = grind arith

module _ (above below : LockName) (next : IsAbove above below) where
  pub next_is : (n : LockName) → name_eq above n ≡ true → (is_under n above ≡ false) × (is_under n below ≡ true)
  next_is n e = let same = is_same above n e in (subst (λ k. is_under k above ≡ false) same (not_itself above), subst (λ k. is_under k below ≡ true) same (above_is above below next))

  -- a name above the next one is another
  pub not_next : (n : LockName) → is_under n above ≡ true → name_eq above n ≡ false
  not_next n is = false_from_ne_true (name_eq above n) (λ e. true≢false (sym is ∙ (next_is n e).0))

  -- the names above a name are the next one, and those above that
  under_is : (n : LockName) → is_under n below ≡ (name_eq above n || is_under n above)
  under_is n = at_test (name_eq above n) (λ b. is_under n below ≡ (b || is_under n above)) (λ e. (next_is n e).1) (λ e. others_above above below next n e)

  is_under_or : (n : LockName) → is_under n below ≡ (is_under n above || name_eq above n)
  is_under_or n =
      at_test (is_under n above) (λ b. is_under n below ≡ (b || name_eq above n)) (λ e. from_above above below next n e)
      (λ e. under_is n ∙ ap (λ u. name_eq above n || u) e ∙ elim (name_eq above n) as (λ b. (b || false) ≡ b) [ true ↦ refl | false ↦ refl ])

  module _ (f : Tally → Tally) (old mid new : LockName → Tally) where
    pub all_counted : ((n : LockName) → mid n ≡ cond (name_eq above n) (f (old n)) (old n)) → ((n : LockName) → new n ≡ cond (is_under n above) (f (mid n)) (mid n))
        → (n : LockName) → new n ≡ cond (is_under n below) (f (old n)) (old n)
    all_counted first rest n = twofold f (old n) (mid n) (new n) (name_eq above n) (is_under n above) (λ e. (next_is n e).0) (first n) (rest n) ∙ ap (λ b. cond b (f (old n)) (old n)) (sym (under_is n))

    pub all_taken_off : ((n : LockName) → old n ≡ cond (name_eq above n) (f (mid n)) (mid n)) → ((n : LockName) → mid n ≡ cond (is_under n above) (f (new n)) (new n))
        → (n : LockName) → old n ≡ cond (is_under n below) (f (new n)) (new n)
    all_taken_off first rest n = twofold f (new n) (mid n) (old n) (is_under n above) (name_eq above n) (not_next n) (rest n) (first n) ∙ ap (λ b. cond b (f (new n)) (new n)) (sym (is_under_or n))

  -- what holds of the names above the name holds of those above the next one, which the first step left alone
  pub levels_left : (P : LockName → Type 0) → ((n : LockName) → is_under n below ≡ true → P n) → (n : LockName) → is_under n above ≡ true → P n
  levels_left P all n is = all n (from_above above below next n is)

  -- what holds of the next name and of those above it holds of all above the name
  pub level_has : (P : LockName → Type 0) → P above → ((n : LockName) → is_under n above ≡ true → P n) → (n : LockName) → is_under n below ≡ true → P n
  level_has P here all n is = elim (cases_Bool (name_eq above n)) [
    | inl e ↦ subst P (is_same above n e) here
    | inr e ↦ all n (sym (others_above above below next n e) ∙ is)
  ]
