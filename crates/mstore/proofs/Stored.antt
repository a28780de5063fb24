-- SPDX-License-Identifier: Apache-2.0
-- A statement that puts a text at a key is refused only if a row has the last number of all, or is in the way of a new one.
use Rattle.mstore.proofs.Words.{arith, ◌≡◌, ◌≢◌, ◌⊎◌, ◌≤◌, ℕ, ℤ, pos, Bool, true, false, not, ◌&&◌, ◌||◌, List, [], ◌∷◌, length, map, flat_map, Option, Some}
use Rattle.mstore.proofs.Words.{None, Result, Ok, Err, IsTrue, refl, sym, ap, subst, ◌∙◌, inl, inr, true≢false, false_from_ne_true, tied_itself, AllByRecursion}
use Rattle.mstore.proofs.Words.{Less, IsPermutation, Null, Int, Blob, Row, column, Error, IsDatabase, Enforced, Does, mode_of, Executes, State, Written}
use Rattle.mstore.proofs.Words.{AreRows, IsInForm, lookup, value_of, Chosen, Given, id_in, ids_of, edit_of, without_all, put_all, next_rowid, are_fresh}
use Rattle.mstore.proofs.Words.{is_taken, rowid, Has, some_from, all_has, node, schema, Add, Replace, sql, statement_of, understood, key_of, is_at, same_bytes}
use Rattle.mstore.proofs.Words.{col, IsAnswer, overlay, output, Updates, value_cmp, value_cmp_total, is_eq, all_from}
use Rattle.std.proofs.Common.{fold, ◌+ℤ◌}
use Rattle.mstore.proofs.Texts.{add_is, add_command, put_source, replace_is, replace_command, replace_query, program, at_key}
use Rattle.mstore.proofs.Answer.{passes, one, rows_from}
use Rattle.mstore.proofs.Edits.{IsLeft, left_is, left_from}
use Rattle.mstore.proofs.Maps.{at_itself, lookup_has}
use Rattle.mstore.proofs.Writes.{task}
use Rattle.mstore.proofs.Puts.{IsNumbered, row_of, put_is_made, put_nodes, not_at, IsPut}
use Rattle.mstore.proofs.Adds.{news_is}
use Rattle.mstore.proofs.Replaces.{passes_is, cast_full}
use Rattle.mstore.proofs.Changes.{Wants, same_stop, edit_stops, refusal_is, unique_in, never_oversized}
use Rattle.mstore.proofs.Causes.{IsLack, change_is, reads_all}
use Rattle.mstore.proofs.Accepts.{add_takes, add_changes, replace_takes, replace_changes, replace_typed, put_terms, no_overflow}
use Rattle.mstore.specs.Room.{is_full, has_next}
use Rattle.sqlite_catalog.specs.Listing.{IsSound}
use Rattle.sqlite_disk.specs.Disk.{MoreFaults}
use Rattle.sqlite_trees.specs.Tree.{IsTable}
use Rattle.sqlite_trees.specs.View.{is_int}
use Rattle.sqlite_sql.specs.Ops.{fits_i64}
use Rattle.sqlite_rules.specs.declared.error.Refusal.{Refusal}
use Rattle.sqlite_rules.specs.declared.error.Refusal.TheVariants.{Violates, Mismatch, NoRowid, BadReference, TooDeep}
use Rattle.sqlite_schema.specs.declared.schema.Constraint.TheVariants.{Datatype, NotNull, Check, PrimaryKey, Unique, ForeignKey}
use Rattle.sqlite_rules.proofs.PlaceLemmas.{next_is_free}
use Rattle.sqlite_rules.proofs.ListLemmas.{some_has}
use Rattle.sqlite.proofs.Callers.{one_permutation}
use Rattle.sqlite.specs.Does.{Concludes}
use Rattle.sqlite.specs.Effect.{edit_error}
use Rattle.sqlite.specs.Rows.{Part, Then, Edited, Inserts}
use Rattle.sqlite_rules.specs.Edit.{Edit, IsOversized}
use Rattle.sqlite_trees.specs.Tree.{with_tree}
use Rattle.sqlite_sql.specs.Term.{Term}
use Rattle.sqlite.specs.Query.{Output}
use Rattle.mnodes.specs.declared.store.StoreFault.{StoreFault}
use Rattle.mnodes.specs.declared.store.StoreFault.TheVariants.{Store}
use Rattle.mstore.specs.Statements.{AddsRow, IsConstraint, MeetsRow}
use Rattle.sqlite.specs.State.{IsMisplaced}

-- ---- numbers

unfit_row : (r : Row) → fits_i64 (id_in (rowid r) +ℤ pos 1) ≡ false → not (has_next r) ≡ true
unfit_row r h = grind arith

own_unfit : (r : Row) → fits_i64 (id_in (rowid r)) ≡ false → not (has_next r) ≡ true
own_unfit r h = grind arith

either_full : (a b : Bool) → (a ≡ true) ⊎ (b ≡ true) → (a || b) ≡ true
either_full a b h = grind arith

abbrev step : ℤ → Row → ℤ
step n r = id_in (rowid r) +ℤ pos 1

unfit_from : (rows : List Row) (n : ℤ) → fits_i64 (fold step n rows) ≡ false → (fits_i64 n ≡ false) ⊎ (is_full rows ≡ true)
unfit_from [] n h = inl h
unfit_from (r ∷ rows) n h = elim (unfit_from rows (id_in (rowid r) +ℤ pos 1) h) [
  | inl unfit ↦ inr (either_full (not (has_next r)) (is_full rows) (inl (unfit_row r unfit)))
  | inr full ↦ inr (either_full (not (has_next r)) (is_full rows) (inr full))
]

-- the next number is none that a row may have only if the table is full
pub next_unfit : (rows : List Row) → fits_i64 (next_rowid rows) ≡ false → is_full rows ≡ true
next_unfit rows h = elim (unfit_from rows (pos 1) h) [ inl never ↦ absurd cc | inr full ↦ full ]

-- ---- the answer has one row

module _ (tests : List Term) (params : Row) where
  none_passes : (rows : List Row) → ((s : Row) → Has rows s → passes tests params s ≡ false) → flat_map (one tests params) rows ≡ []
  none_passes [] none = refl
  none_passes (s ∷ rows) none = rw (none s (inl refl)) (none_passes rows (λ t h. none t (inr h)))

  one_passes : (rows : List Row) (r : Row) → IsTable rows → Has rows r → passes tests params r ≡ true
      → ((s : Row) → Has rows s → passes tests params s ≡ true → s ≡ r)
      → flat_map (one tests params) rows ≡ (params ∷ r ∷ []) ∷ []
  one_passes [] r up h pass only = absurd h
  one_passes (s ∷ rows) r up (inl same) pass only =
      let none = none_passes rows (λ t h. false_from_ne_true _ (λ passed.
      let lower = all_has _ rows t up.0 h in
      let is = only t (inr h) passed ∙ same in
      let tie = tied_itself value_cmp_total (rowid s) in
      let less : value_cmp (rowid s) (rowid s) ≡ Less = subst (λ (u : Row). value_cmp (rowid s) (rowid u) ≡ Less) is lower in
      let clash = sym tie ∙ less in absurd cc)) in
      let here : passes tests params s ≡ true = subst (λ u. passes tests params u ≡ true) same pass in
      rw (here, none) (ap (λ u. (params ∷ u ∷ []) ∷ []) (sym same))
  one_passes (s ∷ rows) r up (inr later) pass only =
      let other : passes tests params s ≡ false = false_from_ne_true _ (λ passed.
      let lower = all_has _ rows r up.0 later in
      let is = only s (inl refl) passed in
      let tie = tied_itself value_cmp_total (rowid r) in
      let less : value_cmp (rowid r) (rowid r) ≡ Less = subst (λ (u : Row). value_cmp (rowid u) (rowid r) ≡ Less) is lower in
      let clash = sym tie ∙ less in absurd cc) in
      rw other (one_passes rows r up.1 later pass (λ t h. only t (inr h)))

-- ---- the statements

-- a row of a key that has one is refused for it
abbrev pub AddWhy : Type 0 → Type 0 → Refusal → Type 0
AddWhy full there (Violates Unique) = there
AddWhy full there NoRowid = full
AddWhy full there _ = ⊥

module _ (old : State) (has : old.now.schema ≡ schema) (nodes : AreRows IsInForm (old.now.trees 0)) (sound : IsDatabase old.now) (up : IsTable (old.now.trees 0)) (numbers : AllByRecursion (λ r. IsTrue (is_int (rowid r))) (old.now.trees 0))
    (unlimited : old.step_limit ≡ None) (k v : List ℕ) (right : IsInForm k v) (short : length k ≤ 5000) (low : length v ≤ 4095) where
  abbrev params : Row
  params = Blob k ∷ Blob v ∷ []

  abbrev rows : List Row
  rows = old.now.trees 0

  abbrev pub Full : Type 0
  Full = is_full rows ≡ true

  abbrev pub IsThere : Type 0
  IsThere = lookup rows k ≢ None

  listed : IsSound schema old.now.trees
  listed = subst (λ s. IsSound s old.now.trees) has sound

  -- an edit that leaves some rows and puts one
  module _ (Why : Refusal → Type 0) (edit : Edit) (left : List Row) (id : ℤ) (is : edit ≡ record { table = node; gone = edit.gone; news = row_of id k v ∷ [] }) (left_is : without_all rows edit.gone ≡ left)
      (clash : (IsLeft rows left (is_at k) → ⊥) → Why (Violates Unique)) (free : is_taken left (row_of id k v) ≡ false) (numbered : IsNumbered rows id) (fits : fits_i64 id ≡ false → Why NoRowid) where
    abbrev edit_is : Edit
    edit_is = record { table = node; gone = edit.gone; news = row_of id k v ∷ [] }

    one_stops : (s : Option Error) → Edited schema Enforced old.now.trees edit (Err s) → Wants Why s
    one_stops s h =
        let copies : (x : Row) → Has (row_of id k v ∷ []) x → x ≡ row_of id k v = λ x here. elim here [ inl same ↦ same | inr never ↦ absurd never ] in
        let next = put_all (without_all rows edit.gone) (row_of id k v ∷ []) in
        let fresh_is : are_fresh left (row_of id k v ∷ []) ≡ true = ap (λ b. not b && true) free in
        let made : IsLeft rows left (is_at k) → IsPut rows next k v =
        λ kept. put_is_made rows left (row_of id k v ∷ []) next k v id kept (ap (λ l. put_all l (row_of id k v ∷ [])) left_is) fresh_is copies (inl refl) numbered in
        edit_stops Why old.now.trees edit_is refl
        (refusal_is Why old.now.trees edit_is refl id k v copies (subst (λ l. are_fresh l (row_of id k v ∷ []) ≡ true) (sym left_is) fresh_is)
        (λ broken. clash (λ kept. broken (unique_in next (put_nodes rows next k v right nodes (made kept)) old.now.trees (with_tree old.now.trees 0 next) refl refl listed))) fits)
        (λ row here big. never_oversized id k v short low (subst (λ r. IsOversized schema node r) (copies row here) big)) s
        (subst (λ e. Edited schema Enforced old.now.trees e (Err s)) is h)

  -- ---- a value put at a key that has none

  abbrev fresh : Row
  fresh = row_of (next_rowid rows) k v

  abbrev pub AddCause : Refusal → Type 0
  AddCause = AddWhy Full IsThere

  all_left : lookup rows k ≡ None → IsLeft rows rows (is_at k)
  all_left none = record { was = λ r here. (here, not_at k r (λ same. absurd (let some = subst (λ q. lookup rows q ≡ Some (value_of r)) same (lookup_has rows r nodes here) in cc))); stays = λ r here _. here }

  add_stops : (s : Option Error) → Edited schema Enforced old.now.trees (edit_of old.now.trees node [] Chosen 0 ((Null ∷ Blob k ∷ Blob v ∷ []) ∷ [])) (Err s)
      → Wants AddCause s
  add_stops s edited =
      let edit = edit_of old.now.trees node [] Chosen 0 ((Null ∷ Blob k ∷ Blob v ∷ []) ∷ []) in
      let is : edit ≡ record { table = node; gone = []; news = fresh ∷ [] } = ap (λ l. record { table = node; gone = []; news = l }) (news_is old has nodes k v _ refl) in
      one_stops AddCause edit rows (next_rowid rows) is refl (λ clash none. clash (all_left none)) (next_is_free Chosen rows (Blob k ∷ Blob v ∷ []) up numbers) (inl refl) (next_unfit rows) s edited

  inserts_stop : (s : Option Error) → Inserts (task old params) put_source old.now.trees (Err s) → Wants AddCause s
  inserts_stop s (inl (None, sourced, same)) = absurd sourced
  inserts_stop s (inl (Some e, inl typed, same)) = absurd (true≢false (sym (put_terms k v) ∙ typed.1))
  inserts_stop s (inl (Some e, inr limited, same)) = let some = rw unlimited at limited.1 in absurd (true≢false (sym some))
  inserts_stop s (inr (list, sourced, inl (why, counter, same))) = absurd cc
  inserts_stop s (inr (list, sourced, inr (counter, counted, inl (why, edited, same)))) =
      subst (Wants AddCause) (sym (same_stop same)) (add_stops why (subst (λ l. Edited schema Enforced old.now.trees (edit_of old.now.trees node [] Chosen 0 l) (Err why)) sourced.1 edited))
  inserts_stop s (inr (list, sourced, inr (counter, counted, inr (mid, edited, inl (why, counts, same))))) = absurd cc
  inserts_stop s (inr (list, sourced, inr (counter, counted, inr (mid, edited, inr (next, counts, gives))))) = absurd cc

  -- ---- a value put in the place of the one at a key

  abbrev pub ReplaceCause : Refusal → Type 0
  ReplaceCause why = Full

  -- where the key is not there, nothing is put
  none_stops : (s : Option Error) → Edited schema Enforced old.now.trees (edit_of old.now.trees node [] Given 1 []) (Err s) → Wants ReplaceCause s
  none_stops s edited =
      let edit = edit_of old.now.trees node [] Given 1 [] in
      edit_stops ReplaceCause old.now.trees edit refl
      (refusal_is ReplaceCause old.now.trees edit refl (pos 0) [] [] (λ x h. absurd h) refl
      (λ broken. absurd (broken (unique_in rows nodes old.now.trees (with_tree old.now.trees 0 rows) refl refl listed))) (λ unfit. absurd cc))
      (λ row h big. h) s edited

  -- a key that is there
  module _ (r : Row) (here : Has rows r) (same_key : key_of r ≡ k) where
    abbrev number : ℤ
    number = id_in (rowid r)

    abbrev shown_row : Row
    shown_row = rowid r ∷ rowid r ∷ column r 1 ∷ Blob v ∷ []

    only : (s : Row) → Has rows s → passes at_key params s ≡ true → s ≡ r
    only s h pass = nodes.keys s r h here (same_bytes (key_of s) k (sym (passes_is old has nodes k v s h) ∙ pass) ∙ sym same_key)

    asked_is : (asked : List Row) → IsAnswer replace_query (overlay old.now.trees []) params asked → asked ≡ shown_row ∷ []
    asked_is asked a =
        let o = output replace_query (params ∷ r ∷ []) in
        let pass = passes_is old has nodes k v r here ∙ at_itself r k same_key in
        let matched = one_passes at_key params rows r up here pass only in
        let kept : a.kept ≡ o ∷ [] = a.distinct ∙ ap (map (output replace_query)) (a.grouped ∙ matched) in
        let ordered : a.ordered ≡ o ∷ [] = one_permutation o a.ordered (subst (λ l. IsPermutation l a.ordered) kept a.same) in
        a.shown ∙ ap (map (λ (o : Output). o.1)) ordered

    free_again : is_taken (without_all rows (number ∷ [])) (row_of number k v) ≡ false
    free_again = false_from_ne_true _ (λ any.
        let it = some_has (λ q. is_eq (value_cmp (rowid q) (Int number))) (without_all rows (number ∷ [])) any in
        true≢false (sym it.2 ∙ (left_from (number ∷ []) rows it.0 it.1).1 number (inl refl)))

    kept_is : IsLeft rows (without_all rows (number ∷ [])) (is_at k)
    kept_is = left_is rows nodes (number ∷ []) (is_at k)
        (λ d among. elim among [ inl is ↦ (r, here, at_itself r k same_key, is) | inr never ↦ absurd never ])
        (λ s h at. inl (ap (λ t. id_in (rowid t)) (nodes.keys s r h here (same_bytes (key_of s) k at ∙ sym same_key))))

    some_stops : (asked : List Row) → IsAnswer replace_query (overlay old.now.trees []) params asked → (s : Option Error)
        → Edited schema Enforced old.now.trees (edit_of old.now.trees node (ids_of asked) Given 1 asked) (Err s) → Wants ReplaceCause s
    some_stops asked a s edited =
        let one = asked_is asked a in
        let edit = edit_of old.now.trees node (ids_of (shown_row ∷ [])) Given 1 (shown_row ∷ []) in
        let is : edit ≡ record { table = node; gone = number ∷ []; news = row_of number k v ∷ [] } =
        ap (λ x. record { table = node; gone = number ∷ []; news = x ∷ [] }) (cast_full old has nodes k v asked a r here same_key) in
        one_stops ReplaceCause edit (without_all rows (number ∷ [])) number is refl (λ clash. absurd (clash kept_is)) free_again (inr (r, here, refl))
        (λ unfit. some_from (λ q. not (has_next q)) rows r here (own_unfit r unfit)) s
        (subst (λ a. Edited schema Enforced old.now.trees (edit_of old.now.trees node (ids_of a) Given 1 a) (Err s)) one edited)

  abbrev project : List Term
  project = col 1 0 ∷ col 1 0 ∷ col 1 1 ∷ col 0 1 ∷ []

  replace_stops : (asked : List Row) → IsAnswer replace_query (overlay old.now.trees []) params asked → (s : Option Error)
      → Edited schema Enforced old.now.trees (edit_of old.now.trees node (ids_of asked) Given 1 asked) (Err s) → Wants ReplaceCause s
  replace_stops [] a s edited = none_stops s edited
  replace_stops (x ∷ more) a s edited =
      let it = rows_from at_key params project [] old.now.trees 0 refl (x ∷ more) a x (inl refl) in
      some_stops it.0 it.1 (same_bytes (key_of it.0) k (sym (passes_is old has nodes k v it.0 it.1) ∙ it.2)) (x ∷ more) a s edited

  updates_stop : (s : Option Error) → Updates (task old params) (program replace_query) params old.now.trees (Err s) → Wants ReplaceCause s
  updates_stop s (inl (None, asked, same)) = absurd asked
  updates_stop s (inl (Some e, asked, same)) =
      absurd (reads_all (program replace_query) (record { schema = schema; trees = old.now.trees }) params old.step_limit unlimited (replace_typed k v) (no_overflow 0 at_key project [] old.now.trees params) e asked)
  updates_stop s (inr (asked, answer, inl (why, edited, same))) =
      subst (Wants ReplaceCause) (sym (same_stop same)) (replace_stops asked (answer.answer Null) why edited)
  updates_stop s (inr (asked, answer, inr (next, edited, gives))) = absurd cc

  -- ---- each as a whole

  stops : (Why : Refusal → Type 0) (P : Part Written) → ((s : Option Error) → P (Err s) → Wants Why s) → (s : Option Error)
      → Then P (Concludes (task old params) (mode_of old) None) (Err s) → Wants Why s
  stops Why P part s (inl (why, wrote, same)) = subst (Wants Why) (sym (same_stop same)) (part why wrote)
  stops Why P part s (inr (w, wrote, inl (why, tested, same))) =
      absurd (tested.0 (all_from _ (w.trees 0) (λ row h. refl), (all_from _ (w.trees 2) (λ row h. refl), tt)))
  stops Why P part s (inr (w, wrote, inr (doubt, tested, inl (why, returns, same)))) = absurd cc
  stops Why P part s (inr (w, wrote, inr (doubt, tested, inr (shown, returns, gives)))) = absurd cc

  add_all_stops : (text : List ℕ) (s : Option Error) → Does old.step_limit (mode_of old) params old.now text None add_command (Err s) → Wants AddCause s
  add_all_stops text s h =
      stops AddCause (Inserts (task old params) put_source old.now.trees) inserts_stop s
      (subst (λ c. Does old.step_limit (mode_of old) params (record old.now { schema = c }) text None add_command (Err s)) has h)

  replace_all_stops : (text : List ℕ) (s : Option Error) → Does old.step_limit (mode_of old) params old.now text None replace_command (Err s)
      → Wants ReplaceCause s
  replace_all_stops text s h =
      stops ReplaceCause (Updates (task old params) (program replace_query) params old.now.trees) updates_stop s (subst (λ c. Does old.step_limit (mode_of old) params (record old.now { schema = c }) text None replace_command (Err s)) has h)

  add_placed : (e : Error) → IsMisplaced old add_command e → ⊥
  add_placed e h = grind arith

  replace_placed : (e : Error) → IsMisplaced old replace_command e → ⊥
  replace_placed e h = grind arith

  module _ (new : State) (was_open : IsTrue old.is_open) (quiet : MoreFaults old.faults new.faults → ⊥) where
    pub add_causes : (e : Error) → Executes (sql Add) params old new (Err e) → IsLack e ⊎ Wants AddCause (Some e)
    add_causes e h =
        let text = statement_of (sql Add) (understood schema (sql Add)) in
        elim (change_is old new was_open quiet (sql Add) params schema has (add_takes k v) add_command add_is.0 add_is.1 add_changes add_placed (add_all_stops text None) e h) [
          | inl lack ↦ inl lack
          | inr does ↦ inr (add_all_stops text (Some e) does.0)
        ]

    pub replace_causes : (e : Error) → Executes (sql Replace) params old new (Err e) → IsLack e ⊎ Wants ReplaceCause (Some e)
    replace_causes e h =
        let text = statement_of (sql Replace) (understood schema (sql Replace)) in
        elim (change_is old new was_open quiet (sql Replace) params schema has (replace_takes k v) replace_command replace_is.0 replace_is.1 replace_changes replace_placed (replace_all_stops text None) e h) [
          | inl lack ↦ inl lack
          | inr does ↦ inr (replace_all_stops text (Some e) does.0)
        ]

-- ---- what the code makes of it

-- a constraint that was broken is that of the keys
there_if : (full there : Type 0) (e : Error) (why : Refusal) → e ≡ edit_error why → IsConstraint e → AddWhy full there why → there
there_if full there e (Violates Datatype) is rule h = absurd h
there_if full there e (Violates NotNull) is rule h = absurd h
there_if full there e (Violates Check) is rule h = absurd h
there_if full there e (Violates PrimaryKey) is rule h = absurd h
there_if full there e (Violates Unique) is rule h = h
there_if full there e (Violates ForeignKey) is rule h = absurd h
there_if full there e Mismatch is rule h = absurd h
there_if full there e NoRowid is rule h = absurd (let clash = sym is ∙ rule.1 in cc)
there_if full there e BadReference is rule h = absurd h
there_if full there e TooDeep is rule h = absurd h

full_if : (full there : Type 0) (e : Error) (why : Refusal) → e ≡ edit_error why → (IsConstraint e → ⊥) → AddWhy full there why → full
full_if full there e (Violates Datatype) is other h = absurd h
full_if full there e (Violates NotNull) is other h = absurd h
full_if full there e (Violates Check) is other h = absurd h
full_if full there e (Violates PrimaryKey) is other h = absurd h
full_if full there e (Violates Unique) is other h = absurd (other (Unique, is))
full_if full there e (Violates ForeignKey) is other h = absurd h
full_if full there e Mismatch is other h = absurd h
full_if full there e NoRowid is other h = h
full_if full there e BadReference is other h = absurd h
full_if full there e TooDeep is other h = absurd h

not_lack : (e : Error) → IsConstraint e → IsLack e → ⊥
not_lack e rule lack = let clash = sym lack ∙ rule.1 in absurd cc

module _ (full there : Type 0) (count : Result ℕ Error) (result : Result Bool StoreFault) (causes : (e : Error) → count ≡ Err e → IsLack e ⊎ Wants (AddWhy full there) (Some e)) where
  pub unless_there : AddsRow count result → result ≡ Ok false → there
  unless_there h is = of count refl h
    where
      of : (c : Result ℕ Error) → count ≡ c → AddsRow c result → there
      of (Ok n) same h = absurd (let clash = sym h ∙ is in cc)
      of (Err e) same (inl (rule, gave)) =
          elim (causes e same) [ inl lack ↦ absurd (not_lack e rule lack) | inr cause ↦ there_if full there e cause.0 cause.1 rule cause.2 ]
      of (Err e) same (inr (other, fault)) = absurd (let clash = sym fault.1 ∙ is in cc)

  pub unless_added : AddsRow count result → result ≡ Err Store → full
  unless_added h is = of count refl h
    where
      of : (c : Result ℕ Error) → count ≡ c → AddsRow c result → full
      of (Ok n) same h = absurd (let clash = sym h ∙ is in cc)
      of (Err e) same (inl (rule, gave)) = absurd (let clash = sym gave ∙ is in cc)
      of (Err e) same (inr (other, fault)) =
          let is_store : fault.0 ≡ Store = same_stop (sym fault.1 ∙ is) in
          elim (causes e same) [ inl lack ↦ absurd (fault.2 is_store lack) | inr cause ↦ full_if full there e cause.0 cause.1 other cause.2 ]

pub unless_replaced : (full : Type 0) (count : Result ℕ Error) (result : Result Bool StoreFault) → ((e : Error) → count ≡ Err e → IsLack e ⊎ full)
    → MeetsRow count result → result ≡ Err Store → full
unless_replaced full (Ok n) result causes h is = absurd (let clash = sym h ∙ is in cc)
unless_replaced full (Err e) result causes fault is =
    let is_store : fault.0 ≡ Store = same_stop (sym fault.1 ∙ is) in
    elim (causes e refl) [ inl lack ↦ absurd (fault.2 is_store lack) | inr it ↦ it ]
