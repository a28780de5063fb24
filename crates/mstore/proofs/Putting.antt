-- SPDX-License-Identifier: Apache-2.0
-- A put by two statements, of which one writes and the other changes nothing.
use Rattle.mstore.proofs.Words.{arith, ◌≡◌, ◌≢◌, ◌≤◌, ◌∙◌, ◌⊎◌, Some, IsDatabase, ℕ, Bool, true, false, List, [], ◌∷◌, None, Result, Ok, Err, IsTrue, is_ok}
use Rattle.mstore.proofs.Words.{refl, sym, ap, subst, inl, inr, true≢false, cases_Bool, Blob, Row, Error, StoreError, OutOfMemory, Io, Corrupt, Full, Broken}
use Rattle.mstore.proofs.Words.{Unstorable, store_error, State, HasCleanDisk, Executes, shows_rows, ExecutesIn, IsNotRun, Ghosts, Held, state, IsStore}
use Rattle.mstore.proofs.Words.{IsInForm, doubt_of, holds, stored, globals_by, key_of, value_of, OnOk, OnErr, lookup, Add, Replace, sql, shut}
use Rattle.mnodes.specs.declared.store.StoreFault.{StoreFault}
use Rattle.mnodes.specs.declared.store.StoreFault.TheVariants.{Store}
use Rattle.mstore.specs.Database.{node_rows}
use Rattle.mstore.specs.Map.{PutsAt}
use Rattle.mstore.specs.Putting.{FailsIfFull, PutsAs, PutsBy, PutsIf}
use Rattle.mstore.specs.Room.{AreUpTo, IsFaultless, is_full}
use Rattle.mstore.specs.Statements.{AddsRow, IsConstraint, MeetsRow, is_put}
use Rattle.mstore.proofs.Doubting.{open_if, clean_if, clean_if_shut, memory_is_sure, rises_on, shut_if, sure_before}
use Rattle.mstore.proofs.Asked.{quiet}
use Rattle.mstore.proofs.Causes.{IsLack}
use Rattle.mstore.proofs.Changes.{Wants, in_order}
use Rattle.mstore.proofs.KeyLengths.{key_is_short}
use Rattle.mstore.proofs.Numbers.{add_counts, replace_counts}
use Rattle.mstore.proofs.Sound.{add_after, add_open, replace_after, replace_open}
use Rattle.mstore.proofs.Stored.{AddWhy, add_causes, replace_causes, unless_added, unless_replaced, unless_there}

-- ---- a constraint that refuses a statement leaves the connection open

no_store_error : (cause : StoreError) (e : Error) → IsConstraint e → e ≡ store_error cause → ⊥
no_store_error OutOfMemory e rule is = let clash = sym rule.1 ∙ is in absurd cc
no_store_error Io e rule is = let clash = sym rule.1 ∙ is in absurd cc
no_store_error Corrupt e rule is = let clash = sym rule.1 ∙ is in absurd cc
no_store_error Full e rule is = let clash = sym rule.1 ∙ is in absurd cc
no_store_error Broken e rule is = let clash = sym rule.1 ∙ is in absurd cc
no_store_error Unstorable e rule is = let clash = sym rule.1 ∙ is in absurd cc

constraint_open : (old new : State) (sql : List ℕ) (params : Row) (e : Error) → IsConstraint e → Executes sql params old new (Err e) → IsTrue new.is_open
unfolding ExecutesIn IsNotRun
constraint_open old new sql params e rule (inl (inl h)) = h.1.0.is_open
constraint_open old new sql params e rule (inl (inr h)) = absurd (no_store_error h.0 e rule h.1)
constraint_open old new sql params e rule (inr h) = elim (cases_Bool (shows_rows false h.0)) [
  | inl shows ↦ (rw shows at h.2).1.0.is_open
  | inr runs ↦ elim (rw runs at h.2) [ inl refused ↦ refused.1.0.is_open | inr failed ↦ absurd (no_store_error failed.0 e rule failed.1) ]
]

-- ---- one statement

module _ {S : Type 0} (g : Ghosts S) (old new : Held S) (k v : List ℕ) (right : IsInForm k v) (limit : new.step_limit ≡ old.step_limit) (order : doubt_of g old ≤ doubt_of g new) where
  abbrev Runs : List ℕ → Result ℕ Error → Type 0
  Runs text count = HasCleanDisk (state g new) → Executes text (Blob k ∷ Blob v ∷ []) (state g old) (state g new) count

  clash : IsTrue (state g new).is_open → doubt_of g new ≡ shut → ⊥
  clash is_open is_shut = true≢false (sym is_open ∙ shut_if (state g new) is_shut)

  add_fails : (count : Result ℕ Error) → Runs (sql Add) count → (result : Result Bool StoreFault) → AddsRow count result → IsStore (state g old)
      → doubt_of g new ≡ shut → is_ok result ≡ false
  add_fails (Ok n) ran result is was is_shut =
      absurd (clash (add_open g old new was (Blob k ∷ Blob v ∷ []) n (ran (clean_if_shut (state g new) is_shut))) is_shut)
  add_fails (Err e) ran result (inl (rule, is)) was is_shut =
      absurd (clash (constraint_open (state g old) (state g new) (sql Add) (Blob k ∷ Blob v ∷ []) e rule (ran (clean_if_shut (state g new) is_shut))) is_shut)
  add_fails (Err e) ran result (inr (other, fault)) was is_shut = ap is_ok fault.1

  replace_fails : (count : Result ℕ Error) → Runs (sql Replace) count → (result : Result Bool StoreFault) → MeetsRow count result → IsStore (state g old)
      → doubt_of g new ≡ shut → is_ok result ≡ false
  replace_fails (Ok n) ran result is was is_shut =
      absurd (clash (replace_open g old new was (Blob k ∷ Blob v ∷ []) n (ran (clean_if_shut (state g new) is_shut))) is_shut)
  replace_fails (Err e) ran result fault was is_shut = ap is_ok fault.1

  pub add_puts : (count : Result ℕ Error) → Runs (sql Add) count → (result : Result Bool StoreFault) → AddsRow count result → PutsAs g old new k v result
  add_puts count ran result is = record {
    limit = limit;
    doubt = record { order = order; failed = add_fails count ran result is };
    store = λ was sure. (add_after g old new was sure k v right count (ran (clean_if (state g new) sure)) result is).0;
    rows = λ was sure. (add_after g old new was sure k v right count (ran (clean_if (state g new) sure)) result is).1;
    numbers = λ was sure n up. add_counts (state g old) (state g new) was (open_if (state g new) sure) n up k v count (ran (clean_if (state g new) sure));
  }

  pub replace_puts : (count : Result ℕ Error) → Runs (sql Replace) count → (result : Result Bool StoreFault) → MeetsRow count result
      → PutsAs g old new k v result
  replace_puts count ran result is = record {
    limit = limit;
    doubt = record { order = order; failed = replace_fails count ran result is };
    store = λ was sure. (replace_after g old new was sure k v right count (ran (clean_if (state g new) sure)) result is).0;
    rows = λ was sure. (replace_after g old new was sure k v right count (ran (clean_if (state g new) sure)) result is).1;
    numbers = λ was sure n up. replace_counts (state g old) (state g new) was (open_if (state g new) sure) n up k v count (ran (clean_if (state g new) sure));
  }

  -- ---- over a store beneath that has no fault

  module _ (live : IsTrue (state g old).is_open → IsDatabase (state g old).now) (beneath : IsFaultless g) (was : IsStore (state g old)) (unlimited : old.step_limit ≡ None) where
    abbrev sound : IsDatabase (state g old).now
    sound = live (beneath.memory.is_open old.store)

    same_rows : (result : Result Bool StoreFault) → PutsAs g old new k v result → result ≡ Err Store → node_rows g new ≡ node_rows g old
    same_rows result p is = subst (λ r. PutsIf g old new k v (is_put r)) is (p.rows was (memory_is_sure g new beneath.memory))

    add_causes_are : (count : Result ℕ Error) → Runs (sql Add) count → (e : Error) → count ≡ Err e
        → IsLack e ⊎ Wants (AddWhy (is_full (node_rows g old) ≡ true) (holds g old k ≢ None)) (Some e)
    add_causes_are count ran e is =
        let up = in_order g old beneath was.calm.schema_is sound in
        add_causes (state g old) was.calm.schema_is was.nodes sound up.0 up.1 unlimited k v right (key_is_short k right.0) right.1.0 (state g new) (beneath.memory.is_open old.store) (quiet g old new beneath) e
        (subst (Executes (sql Add) (Blob k ∷ Blob v ∷ []) (state g old) (state g new)) is (ran (beneath.memory.clean new.store)))

    replace_causes_are : (count : Result ℕ Error) → Runs (sql Replace) count → (e : Error) → count ≡ Err e → IsLack e ⊎ (is_full (node_rows g old) ≡ true)
    replace_causes_are count ran e is =
        let up = in_order g old beneath was.calm.schema_is sound in
        elim (replace_causes (state g old) was.calm.schema_is was.nodes sound up.0 up.1 unlimited k v right (key_is_short k right.0) right.1.0 (state g new) (beneath.memory.is_open old.store) (quiet g old new beneath) e
        (subst (Executes (sql Replace) (Blob k ∷ Blob v ∷ []) (state g old) (state g new)) is (ran (beneath.memory.clean new.store)))) [
          | inl lack ↦ inl lack
          | inr it ↦ inr it.2
        ]

    pub add_some : (count : Result ℕ Error) → Runs (sql Add) count → (result : Result Bool StoreFault) → AddsRow count result → result ≡ Ok false
        → holds g old k ≢ None
    add_some count ran result is = unless_there (is_full (node_rows g old) ≡ true) (holds g old k ≢ None) count result (add_causes_are count ran) is

    pub add_full : (count : Result ℕ Error) → Runs (sql Add) count → (result : Result Bool StoreFault) → AddsRow count result → result ≡ Err Store
        → is_full (node_rows g new) ≡ true
    add_full count ran result is refused =
        subst (λ rows. is_full rows ≡ true) (sym (same_rows result (add_puts count ran result is) refused))
        (unless_added (is_full (node_rows g old) ≡ true) (holds g old k ≢ None) count result (add_causes_are count ran) is refused)

    pub replace_full : (count : Result ℕ Error) → Runs (sql Replace) count → (result : Result Bool StoreFault) → MeetsRow count result → result ≡ Err Store
        → is_full (node_rows g new) ≡ true
    replace_full count ran result is refused =
        subst (λ rows. is_full rows ≡ true) (sym (same_rows result (replace_puts count ran result is) refused)) (unless_replaced (is_full (node_rows g old) ≡ true) count result (replace_causes_are count ran) is refused)

-- ---- two statements, of which the first left the rows

not_shut : (m n : ℕ) → m ≤ n → n ≡ shut → (m ≡ shut → ⊥) → m ≡ 0
not_shut m n order is other = omega (arith, order, is, other)

module _ {S : Type 0} (g : Ghosts S) (old mid new : Held S) (k v : List ℕ) (first : PutsBy g old mid k v true false) where
  abbrev before : doubt_of g mid ≤ doubt_of g new → doubt_of g new ≡ 0 → doubt_of g mid ≡ 0
  before order sure = sure_before sure order

  rows_then : (puts : Bool) → node_rows g mid ≡ node_rows g old → PutsIf g mid new k v puts → PutsIf g old new k v puts
  rows_then true same it = subst (λ rows. PutsAt (lookup rows) (holds g new) k v) same it
  rows_then false same it = it ∙ same

  pub then_puts : {is_done puts : Bool} → PutsBy g mid new k v is_done puts → PutsBy g old new k v is_done puts
  then_puts {is_done} {puts} later =
      let up = later.doubt.order in
      record {
        limit = later.limit ∙ first.limit;
        doubt = record {
          order = rises_on first.doubt.order up;
          failed =
              λ was is_shut. later.doubt.failed (first.store was (not_shut _ _ up is_shut (λ shut_first. true≢false (first.doubt.failed was shut_first)))) is_shut;
        };
        store = λ was sure. later.store (first.store was (before up sure)) sure;
        rows = λ was sure. rows_then puts (first.rows was (before up sure)) (later.rows (first.store was (before up sure)) sure);
        numbers =
            λ was sure n counted. later.numbers (first.store was (before up sure)) sure n (subst (AreUpTo n) (sym (first.rows was (before up sure))) counted);
      }

-- what failed may say less
pub failed_puts : {S : Type 0} (g : Ghosts S) (old new : Held S) (k v : List ℕ) {is_done puts : Bool} → PutsBy g old new k v is_done puts
    → PutsBy g old new k v false puts
failed_puts g old new k v p = record { limit = p.limit; doubt = record { order = p.doubt.order; failed = λ _ _. refl }; store = p.store; rows = p.rows; numbers = p.numbers }

-- what the code makes of the last statement
pub settled : {S : Type 0} (g : Ghosts S) (old new : Held S) (k v : List ℕ) (last : Result Bool StoreFault) → PutsAs g old new k v last
    → (r : Result Bool StoreFault) → is_ok r ≡ is_put last → PutsBy g old new k v (is_ok r) (is_ok r)
settled g old new k v (Ok true) p r is = subst (λ b. PutsBy g old new k v b b) (sym is) p
settled g old new k v (Ok false) p r is = subst (λ b. PutsBy g old new k v b b) (sym is) (failed_puts g old new k v p)
settled g old new k v (Err e) p r is = subst (λ b. PutsBy g old new k v b b) (sym is) p

pub settled_full : {S : Type 0} (g : Ghosts S) (old new : Held S) (last : Result Bool StoreFault) → FailsIfFull g old new last
    → (r : Result Bool StoreFault) → (r ≡ Err Store → (last ≡ Err Store) ⊎ (last ≡ Ok false))
    → (IsFaultless g → IsStore (state g old) → old.step_limit ≡ None → last ≡ Ok false → ⊥) → FailsIfFull g old new r
settled_full g old new last full r refused served beneath was unlimited is = elim (refused is) [
  | inl error ↦ full beneath was unlimited error
  | inr idle ↦ absurd (served beneath was unlimited idle)
]

-- the first statement was done and left the rows
module _ {S : Type 0} (g : Ghosts S) (old mid new : Held S) (k v : List ℕ) (first last : Result Bool StoreFault) (a : PutsAs g old mid k v first) (idle : first ≡ Ok false) (b : PutsAs g mid new k v last) where
  abbrev left : PutsBy g old mid k v true false
  left = subst (PutsAs g old mid k v) idle a

  pub both_put : (r : Result Bool StoreFault) → is_ok r ≡ is_put last → PutsBy g old new k v (is_ok r) (is_ok r)
  both_put r is = then_puts g old mid new k v left (settled g mid new k v last b r is)

  module _ (beneath : IsFaultless g) (was : IsStore (state g old)) (unlimited : old.step_limit ≡ None) where
    pub was_mid : IsStore (state g mid)
    was_mid = left.store was (memory_is_sure g mid beneath.memory)

    pub unlimited_mid : mid.step_limit ≡ None
    unlimited_mid = left.limit ∙ unlimited

    pub same_mid : node_rows g mid ≡ node_rows g old
    same_mid = left.rows was (memory_is_sure g mid beneath.memory)

  pub both_full : FailsIfFull g mid new last → (r : Result Bool StoreFault) → (r ≡ Err Store → (last ≡ Err Store) ⊎ (last ≡ Ok false))
      → (IsFaultless g → IsStore (state g old) → old.step_limit ≡ None → last ≡ Ok false → ⊥) → FailsIfFull g old new r
  both_full full r refused served beneath was unlimited is = elim (refused is) [
    | inl error ↦ full beneath (was_mid beneath was unlimited) (unlimited_mid beneath was unlimited) error
    | inr none ↦ absurd (served beneath was unlimited none)
  ]

-- no key is there and is not
pub there_and_not : (old mid : List Row) (k : List ℕ) → mid ≡ old → lookup old k ≡ None → lookup mid k ≢ None → ⊥
there_and_not old mid k same none some = some (subst (λ rows. lookup rows k ≡ None) (sym same) none)

pub not_and_there : (old mid : List Row) (k : List ℕ) → mid ≡ old → lookup old k ≢ None → lookup mid k ≡ None → ⊥
not_and_there old mid k same some none = some (subst (λ rows. lookup rows k ≡ None) same none)

-- what a caller is answered
pub on_put : {S U : Type 0} (g : Ghosts S) (old new : Held S) (k v : List ℕ) (r : Result U StoreFault) → PutsIf g old new k v (is_ok r)
    → OnOk r (PutsAt (holds g old) (holds g new) k v)
on_put g old new k v (Ok u) h = h
on_put g old new k v (Err e) h = tt

pub on_fault : {S U : Type 0} (g : Ghosts S) (old new : Held S) (k v : List ℕ) (r : Result U StoreFault) → PutsIf g old new k v (is_ok r)
    → OnErr r (stored g new ≡ stored g old)
on_fault g old new k v (Ok u) h = tt
on_fault g old new k v (Err e) h = ap (globals_by key_of value_of) h
