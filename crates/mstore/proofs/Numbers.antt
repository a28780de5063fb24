-- SPDX-License-Identifier: Apache-2.0
-- What statements do to the numbers of rows: a put gives at most one more, and nothing else gives any.
use Rattle.mstore.proofs.Words.{arith, ◌≡◌, ◌∙◌, ◌≤◌, ◌+◌, ℕ, ℤ, pos, Bool, true, not, ◌&&◌, ◌||◌, List, [], ◌∷◌, Result, Ok, Err, IsTrue, refl, sym, ap, subst}
use Rattle.mstore.proofs.Words.{inl, inr, true≢false, cases_Bool, Row, Blob, Error, Database, State, Executes, IsStore, Has, id_in, rowid, next_rowid, Add}
use Rattle.mstore.proofs.Words.{Kill, Replace, sql}
use Rattle.std.proofs.Common.{fold, ◌+ℤ◌, nat_lt, if◌then◌else◌}
use Rattle.sqlite_sql.specs.Ops.{fits_i64}
use Rattle.mstore.specs.Room.{AreCounted, AreUpTo, counted_on, has_next, is_full, last_number}
use Rattle.mstore.proofs.Adds.{adds}
use Rattle.mstore.proofs.Puts.{IsPut}
use Rattle.mstore.proofs.Replaces.{replaces}
use Rattle.mstore.proofs.Kills.{kills}
use Rattle.mstore.proofs.States.{failed_execute_stays}

abbrev HasUpTo : ℕ → ℤ → Type 0
HasUpTo n i = (m : ℕ) × (i ≡ pos m) × (m ≤ n)

next_from : (rows : List Row) (n : ℕ) (i : ℤ) → AreUpTo n rows → HasUpTo (n + 1) i → HasUpTo (n + 1) (fold (λ _ r. id_in (rowid r) +ℤ pos 1) i rows)
next_from [] n i up at = at
next_from (r ∷ rows) n i up at =
    let it = up r (inl refl) in
    next_from rows n (id_in (rowid r) +ℤ pos 1) (λ s h. up s (inr h)) (it.0 + 1, ap (λ j. j +ℤ pos 1) it.1, omega (arith, it.2))

-- the next number is at most one more
next_up : (rows : List Row) (n : ℕ) → AreUpTo n rows → HasUpTo (n + 1) (next_rowid rows)
next_up rows n up = next_from rows n (pos 1) up (1, refl, omega arith)

one_up : (n : ℕ) (i : ℤ) → HasUpTo n i → HasUpTo (n + 1) i
one_up n i it = (it.0, it.1, omega (arith, it.2))

put_up : (rows next : List Row) (k v : List ℕ) (n : ℕ) → IsPut rows next k v → AreUpTo n rows → AreUpTo (n + 1) next
put_up rows next k v n put up r h = elim (put.from r h) [
  | inl same ↦ subst (λ (s : Row). HasUpTo (n + 1) (id_in (rowid s))) (sym same) (elim put.numbered [
    | inl fresh ↦ subst (HasUpTo (n + 1)) (sym fresh) (next_up rows n up)
    | inr old ↦ subst (HasUpTo (n + 1)) (sym old.2) (one_up n _ (up old.0 old.1))
  ])
  | inr was ↦ one_up n _ (up r was.0)
]

-- ---- what is left of a store

module _ (old new : State) (was : IsStore old) (is_open : IsTrue new.is_open) (n : ℕ) (up : AreUpTo n (old.now.trees 0)) where
  -- a statement that failed changed nothing
  failed : (s : List ℕ) (params : Row) (e : Error) → Executes s params old new (Err e) → AreUpTo n (new.now.trees 0)
  failed s params e h = subst (λ (d : Database). AreUpTo n (d.trees 0)) (sym (failed_execute_stays old new was.calm.idle is_open s params e h).same) up

  pub add_counts : (k v : List ℕ) (count : Result ℕ Error) → Executes (sql Add) (Blob k ∷ Blob v ∷ []) old new count → AreUpTo (n + 1) (new.now.trees 0)
  add_counts k v (Ok count) h = put_up _ _ k v n (adds old was.calm.schema_is was.nodes k v new count h).2 up
  add_counts k v (Err e) h = λ r has. one_up n _ (failed (sql Add) (Blob k ∷ Blob v ∷ []) e h r has)

  pub replace_counts : (k v : List ℕ) (count : Result ℕ Error) → Executes (sql Replace) (Blob k ∷ Blob v ∷ []) old new count → AreUpTo (n + 1) (new.now.trees 0)
  replace_counts k v (Ok count) h = elim (replaces old was.calm.schema_is was.nodes k v new count h).2 [
    | inl put ↦ put_up _ _ k v n put.0 up
    | inr none ↦ λ r has. one_up n _ (up r (subst (λ l. Has l r) none.0 has))
  ]
  replace_counts k v (Err e) h = λ r has. one_up n _ (failed (sql Replace) (Blob k ∷ Blob v ∷ []) e h r has)

  pub kill_counts : (low high : List ℕ) (count : Result ℕ Error) → Executes (sql Kill) (Blob low ∷ Blob high ∷ []) old new count → AreUpTo n (new.now.trees 0)
  kill_counts low high (Ok count) h = λ r has. up r ((kills old was.calm.schema_is was.nodes low high new count h).2.was r has).0
  kill_counts low high (Err e) h = failed (sql Kill) (Blob low ∷ Blob high ∷ []) e h

-- ---- a count below the last number leaves room

-- a count below it is one more than the count before
pub counted_less : (n m : ℕ) → m ≡ counted_on n → IsTrue (nat_lt m last_number) → IsTrue (nat_lt n last_number) × (m ≡ n + 1)
counted_less n m is less = elim (cases_Bool (nat_lt n last_number)) [
  | inl below ↦ (below, is ∙ ap (λ b. if b then n + 1 else n) below)
  | inr past ↦ absurd (true≢false (sym less ∙ ap (λ k. nat_lt k last_number) (is ∙ ap (λ b. if b then n + 1 else n) past) ∙ past))
]

-- of one that is not nothing is said
pub none_counted : (rows : List Row) → AreCounted last_number rows
none_counted rows less = absurd (let clash = less in cc)

fits : (m n : ℕ) → m ≤ n → IsTrue (nat_lt n last_number) → (fits_i64 (pos m) && fits_i64 (pos m +ℤ pos 1)) ≡ true
fits m n order less = grind arith

row_has_next : (r : Row) (n : ℕ) → IsTrue (nat_lt n last_number) → HasUpTo n (id_in (rowid r)) → has_next r ≡ true
row_has_next r n less it = ap (λ i. fits_i64 i && fits_i64 (i +ℤ pos 1)) it.1 ∙ fits it.0 n it.2 less

either : (a b : Bool) → a ≡ true → (not a || b) ≡ b
either a b h = grind arith

pub not_full_up : (rows : List Row) (n : ℕ) → IsTrue (nat_lt n last_number) → AreUpTo n rows → is_full rows ≡ true → ⊥
not_full_up [] n less up full = true≢false (sym full)
not_full_up (r ∷ rows) n less up full =
    not_full_up rows n less (λ s h. up s (inr h)) (sym (either (has_next r) (is_full rows) (row_has_next r n less (up r (inl refl)))) ∙ full)
