-- SPDX-License-Identifier: Apache-2.0
-- From the trees of a store to what it shows.
use Rattle.mmemory.proofs.MemoryWords.{All, ◌≡◌, ◌≢◌, ℕ, zero, suc, ◌+◌, ◌-◌, ◌^◌, ◌<◌, ◌≤◌, pos, true, false, cond, eqb, List, [], ◌∷◌, ◌++◌, length, map}
use Rattle.mmemory.proofs.MemoryWords.{replicate, get_or, set, Option, Some, option_map, Result, Ok, Err, OnErr, IfErr, refl, sym, ap, subst, ◌∙◌, arith}
use Rattle.mmemory.proofs.MemoryWords.{eq-eqb, ne_eqb, inl, inr, cases_eq, length-append, length-replicate, length-map, Row, StoreError, Object, Shape, Absent}
use Rattle.mmemory.proofs.MemoryWords.{Table, with_tree, put_row, without_rowid, View, Snapshot, SetsTree, OnlyWrites, IsFailure, padded, catalog_tree}
use Rattle.mmemory.proofs.MemoryWords.{version_tree, with_version, description, object_row, set_at, SetsObject, Relists, Heading, no_heading, shape_in}
use Rattle.mmemory.proofs.MemoryWords.{reals_in, reals_unless_absent, objects_from, objects_from-set, objects_from-unset, named, unnumbered, under_version}
use Rattle.mmemory.proofs.MemoryWords.{versioned_edit, versioned_object, get_or-set_cases, present_reals, Tree, Memory, snapshot_of, Plain, plain, heading}
use Rattle.mmemory.proofs.MemoryWords.{plain_rows, State, headings, rows_of, shown, WithTree, Labels, now, moment, KeepsPast, Keeps, KeepsShown, Writes, Puts}
use Rattle.mmemory.proofs.MemoryWords.{Held, current, marks_of, view_of, memory_view}
use mathlib.Core.Path.{fun_ext}
use Rattle.mmemory.proofs.Shown.{shown_at, not_shown}
use Rattle.mmemory.proofs.Logs.{after_error}

-- ---- numbers that no tree has

pad_each : (n k : ℕ) → get_or (replicate n no_heading) k no_heading ≡ no_heading
pad_each zero k = refl
pad_each (suc n) zero = refl
pad_each (suc n) (suc k) = pad_each n k

pub pad_get : (hs : List Heading) (n k : ℕ) → get_or (hs ++ replicate n no_heading) k no_heading ≡ get_or hs k no_heading
pad_get [] n k = pad_each n k
pad_get (h ∷ hs) n zero = refl
pad_get (h ∷ hs) n (suc k) = pad_get hs n k

pad_lists : (n at : ℕ) → objects_from at (replicate n no_heading) ≡ []
pad_lists zero at = refl
pad_lists (suc n) at = pad_lists n (at + 1)

pub pad_objects : (hs : List Heading) (n at : ℕ) → objects_from at (hs ++ replicate n no_heading) ≡ objects_from at hs
pad_objects [] n at = pad_lists n at
pad_objects (h ∷ hs) n at = rw (pad_objects hs n (at + 1))

pad_length : (hs : List Heading) (tree : ℕ) → tree < length (padded hs tree)
pad_length hs tree = rw length-append (rw length-replicate (omega arith))

pub present_within : (hs : List Heading) (t : ℕ) → shape_in hs t ≢ Absent → t < length hs
present_within [] t there = absurd (there refl)
present_within (h ∷ hs) zero there = omega arith
present_within (h ∷ hs) (suc t) there = let more = present_within hs t there in omega arith

-- ---- one number apart from another

turned : {X : Type 0} (f : ℕ → X) (t u : ℕ) (x y : X) → t ≢ u → set_at (set_at f t x) u y ≡ set_at (set_at f u y) t x
turned f t u x y apart =
    fun_ext (λ k. elim (cases_eq k t) [ inl same ↦ rw (same, ne_eqb t u apart, eq-eqb t t refl) | inr other ↦ rw (ne_eqb k t other) ])

over : {X : Type 0} (f : ℕ → X) (t u : ℕ) (x y z : X) → set_at (set_at (set_at f u y) t x) u z ≡ set_at (set_at f t x) u z
over f t u x y z = fun_ext (λ k. elim (cases_eq k u) [ inl same ↦ rw (same, eq-eqb u u refl) | inr other ↦ rw (ne_eqb k u other) ])

over_itself : {X : Type 0} (f : ℕ → X) (u : ℕ) (y z : X) → set_at (set_at f u y) u z ≡ set_at f u z
over_itself f u y z = fun_ext (λ k. elim (cases_eq k u) [ inl same ↦ rw (eq-eqb k u same) | inr other ↦ rw (ne_eqb k u other) ])

pub stays_at : {X : Type 0} (f : ℕ → X) (t : ℕ) (x : X) → x ≡ f t → set_at f t x ≡ f
stays_at f t x is = fun_ext (λ k. elim (cases_eq k t) [ inl same ↦ rw (eq-eqb k t same, same, is) | inr other ↦ rw (ne_eqb k t other) ])

below_catalog : (t : ℕ) → t < 2 ^ 32 → t ≢ catalog_tree
below_catalog t low is = absurd (omega arith)

module _ (old new : State) (tree : ℕ) (low : tree < 2 ^ 32) (same : headings new ≡ headings old) where
  pub sets_tree : {rows : List Row} → rows_of new ≡ with_tree (rows_of old) tree rows → new.version ≡ old.version → (base : State) (marks : List Snapshot) (was now : ℕ → Option (List Row)) (edit : List Row → List Row)
      → rows ≡ edit (rows_of old tree) → SetsTree (view_of old base marks was) (view_of new base marks now) tree edit
  sets_tree {rows} rows_are version_is base marks was now edit is =
      let objects = objects_from 0 (headings old) in
      let first : with_tree (rows_of new) catalog_tree (objects_from 0 (headings new)) ≡ with_tree (with_tree (rows_of old) catalog_tree objects) tree (edit (rows_of old tree)) =
      (λ i. with_tree (rows_are i) catalog_tree (objects_from 0 (same i))) ∙ (λ i. with_tree (with_tree (rows_of old) tree (is i)) catalog_tree objects)
      ∙ turned (rows_of old) tree catalog_tree (edit (rows_of old tree)) objects (below_catalog tree low) in
      let forest_is : with_tree (rows_of new) catalog_tree (objects_from 0 (headings new)) ≡ with_tree (with_tree (rows_of old) catalog_tree objects) tree (edit (with_tree (rows_of old) catalog_tree objects tree)) =
      rw (named tree low) first in
      let all : (shown new).trees ≡ with_tree (shown old).trees tree (edit ((shown old).trees tree)) =
      ap (with_version (with_tree (rows_of new) catalog_tree (objects_from 0 (headings new)))) version_is
      ∙ versioned_edit (with_tree (rows_of old) catalog_tree objects) _ tree old.version edit (omega arith) forest_is in
      record {
        sound = refl;
        is = λ i. record (view_of new base marks now) {
          trees = all i;
          shape = set_at (set_at (shape_in (same i)) catalog_tree Table) version_tree Table;
          reals = set_at (set_at (reals_in (same i)) catalog_tree 0) version_tree 0;
        };
      }

module _ (old new : State) (tree : ℕ) (it : Plain) (low : tree < 2 ^ 32) (h : WithTree old new tree it) (base : State) (marks : List Snapshot) (was now : ℕ → Option (List Row)) where
  heading_at : (k : ℕ) → get_or (headings new) k no_heading ≡ cond (eqb k tree) (heading it) (get_or (headings old) k no_heading)
  heading_at k =
      ap (λ (hs : List Heading). get_or hs k no_heading) h.headings_are ∙ get_or-set_cases (padded (headings old) tree) tree (heading it) no_heading (pad_length (headings old) tree) k
      ∙ ap (cond (eqb k tree) (heading it)) (pad_get (headings old) (tree + 1 - length (headings old)) k)

  kinds : (shown new).shape ≡ set_at (shown old).shape tree it.shape
  kinds =
      let each : shape_in (headings new) ≡ set_at (shape_in (headings old)) tree it.shape =
      fun_ext (λ k. ap (λ (x : Heading). x.0) (heading_at k) ∙ (elim (eqb k tree) as (λ b. (cond b (heading it) (get_or (headings old) k no_heading)).0 ≡ cond b it.shape (shape_in (headings old) k)) [ true ↦ refl | false ↦ refl ])) in
      ap (λ (f : ℕ → Shape). set_at (set_at f catalog_tree Table) version_tree Table) each
      ∙ ap (λ (f : ℕ → Shape). set_at f version_tree Table) (turned (shape_in (headings old)) tree catalog_tree it.shape Table (below_catalog tree low))
      ∙ under_version (set_at (shape_in (headings old)) catalog_tree Table) tree it.shape Table (omega arith)

  bits : (shown new).reals ≡ set_at (shown old).reals tree (reals_unless_absent it.shape it.reals)
  bits =
      let each : reals_in (headings new) ≡ set_at (reals_in (headings old)) tree (reals_unless_absent it.shape it.reals) =
      fun_ext (λ k. ap (λ (x : Heading). reals_unless_absent x.0 x.1) (heading_at k)
      ∙ (elim (eqb k tree) as (λ b. reals_unless_absent (cond b (heading it) (get_or (headings old) k no_heading)).0 (cond b (heading it) (get_or (headings old) k no_heading)).1 ≡ cond b (reals_unless_absent it.shape it.reals) (reals_in (headings old) k)) [ true ↦ refl | false ↦ refl ])) in
      ap (λ (f : ℕ → ℕ). set_at (set_at f catalog_tree 0) version_tree 0) each
      ∙ ap (λ (f : ℕ → ℕ). set_at f version_tree 0) (turned (reals_in (headings old)) tree catalog_tree (reals_unless_absent it.shape it.reals) 0 (below_catalog tree low))
      ∙ under_version (set_at (reals_in (headings old)) catalog_tree 0) tree (reals_unless_absent it.shape it.reals) 0 (omega arith)

  -- an empty tree, under another heading
  pub sets_object : (edit : List Row → List Row) → plain_rows it ≡ [] → objects_from 0 (set (padded (headings old) tree) tree (heading it)) ≡ edit (objects_from 0 (padded (headings old) tree))
      → SetsObject (view_of old base marks was) (view_of new base marks now) tree it.shape (reals_unless_absent it.shape it.reals) edit
  sets_object edit empty listed =
      let objects = objects_from 0 (headings old) in
      let edited : objects_from 0 (headings new) ≡ edit objects = ap (objects_from 0) h.headings_are ∙ listed ∙ ap edit (pad_objects (headings old) _ 0) in
      let forest_is : with_tree (rows_of new) catalog_tree (objects_from 0 (headings new)) ≡ with_tree (with_tree (with_tree (rows_of old) catalog_tree objects) tree []) catalog_tree (edit objects) =
      (λ i. with_tree (h.rows_are i) catalog_tree (edited i)) ∙ (λ i. with_tree (with_tree (rows_of old) tree (empty i)) catalog_tree (edit objects))
      ∙ sym (over (rows_of old) tree catalog_tree [] objects (edit objects)) in
      let all : (shown new).trees ≡ with_tree (with_tree (shown old).trees tree []) catalog_tree (edit ((shown old).trees catalog_tree)) =
      ap (with_version (with_tree (rows_of new) catalog_tree (objects_from 0 (headings new)))) h.version_is
      ∙ versioned_object (with_tree (rows_of old) catalog_tree objects) _ tree old.version [] edit (omega arith) forest_is in
      record { sound = refl; is = λ i. record (view_of new base marks now) { trees = all i; shape = kinds i; reals = bits i } }

-- ---- what there is beside the transaction

pub map_same : {X : Type 0} (f g : ℕ → X) (bound : ℕ) (xs : List ℕ) → All (λ m. m ≤ bound) xs → ((m : ℕ) → m ≤ bound → f m ≡ g m) → map f xs ≡ map g xs
map_same f g bound [] all same = refl
map_same f g bound (x ∷ xs) all same = (λ i. same x (all 0 0 (omega arith)) i ∷ map_same f g bound xs (λ k d low. all (suc k) d (omega arith)) same i)

pub newest_mark : {X : Type 0} (f : ℕ → X) (marks : List ℕ) (d : X) → 0 < length marks → get_or (map f marks) (length (map f marks) - 1) d ≡ f (get_or marks (length marks - 1) 0)
newest_mark f marks d some = rw length-map (at f marks (length marks - 1) d (omega arith))
  where
    at : {X : Type 0} (f : ℕ → X) (xs : List ℕ) (k : ℕ) (d : X) → k < length xs → get_or (map f xs) k d ≡ f (get_or xs k 0)
    at f [] k d low = absurd (omega arith)
    at f (x ∷ xs) zero d low = refl
    at f (x ∷ xs) (suc k) d low = at f xs k d (omega arith)

module _ (old new : Memory) (h : KeepsPast old.held new.held) where
  pub same_marks : marks_of new ≡ marks_of old
  same_marks =
      ap (map (λ m. shown (moment new.held m))) h.marks
      ∙ map_same (λ m. shown (moment new.held m)) (λ m. shown (moment old.held m)) (length old.held.log.items) old.held.marks.items old.held.within (λ m low. ap shown (h.past m low))

  pub beside : memory_view new ≡ view_of (current new) (moment old.held 0) (marks_of old) (memory_view new).cursors
  beside = λ i. view_of (current new) (h.past 0 (omega arith) i) (same_marks i) (memory_view new).cursors

-- ---- what each call keeps

pub same_shown : (a b : State) → headings a ≡ headings b → rows_of a ≡ rows_of b → a.version ≡ b.version → shown a ≡ shown b
same_shown a b hs rows version = λ i. snapshot_of (hs i) (rows i) (version i)

pub seen_same : (a b : Held) → Keeps a b → KeepsShown a b
seen_same a b h = record { keeps = h.keeps; shown_is = same_shown (now b) (now a) h.headings_are h.rows_are h.version_is }

module _ (old new : Memory) where
  pub seen : KeepsShown old.held new.held → memory_view new ≡ record (memory_view old) { cursors = (memory_view new).cursors }
  seen h = beside old new h.keeps ∙ (λ i. record (memory_view old) { trees = (h.shown_is i).trees; shape = (h.shown_is i).shape; reals = (h.shown_is i).reals; cursors = (memory_view new).cursors })

  pub sets_frame : (tree : ℕ) (edit : List Row → List Row) → SetsTree (memory_view old) (memory_view new) tree edit → OnlyWrites (memory_view old) (memory_view new)
  sets_frame tree edit h = λ i. record (h.is i) { trees = (memory_view new).trees; cursors = (memory_view new).cursors }

  pub fails : {X : Type 0} (r : Result X StoreError) → OnErr r (KeepsShown old.held new.held) → IfErr r (IsFailure (memory_view old) (memory_view new))
  fails (Ok x) h = tt
  fails (Err e) h = let same = seen h in record {
    kept = record {
      shape = ap (λ (v : View). v.shape) same;
      reals = ap (λ (v : View). v.reals) same;
      committed_shape = ap (λ (v : View). v.committed_shape) same;
      committed_reals = ap (λ (v : View). v.committed_reals) same;
      numbered = refl;
      was_open = λ o. o;
      committed = λ _. ap (λ (v : View). v.committed) same;
      marks = λ _. ap (λ (v : View). v.marks) same;
    };
    unchanged = λ _. same;
    refused = λ _ _. same;
  }

  pub fails_kept : (r : Result (Unit {0}) StoreError) → Keeps old.held new.held → IfErr r (IsFailure (memory_view old) (memory_view new))
  fails_kept r h = fails r (after_error r (seen_same old.held new.held h))

-- the shape of a tree that a call can name
pub shape_at : (s : Memory) (t : ℕ) → t < 2 ^ 32 → (memory_view s).shape t ≡ shape_in (headings (current s)) t
shape_at s t low = rw (unnumbered t low, named t low)

module _ (old new : Memory) (tree : ℕ) (edit : List Row → List Row) (low : tree < 2 ^ 32) (h : Writes old.held new.held tree (edit (rows_of (current old) tree))) where
  pub written : SetsTree (memory_view old) (memory_view new) tree edit
  written =
      let sets = sets_tree (current old) (current new) tree low h.headings_are h.rows_are h.version_is (moment old.held 0) (marks_of old) (memory_view old).cursors (memory_view new).cursors edit refl in
      record { sound = refl; is = beside old new h.keeps ∙ sets.is }

module _ (old new : Memory) (tree : ℕ) (it : Plain) (low : tree < 2 ^ 32) (h : Puts old.held new.held tree it) where
  pub replaced_object : (edit : List Row → List Row) → plain_rows it ≡ []
      → objects_from 0 (set (padded (headings (current old)) tree) tree (heading it)) ≡ edit (objects_from 0 (padded (headings (current old)) tree))
      → SetsObject (memory_view old) (memory_view new) tree it.shape (reals_unless_absent it.shape it.reals) edit
  replaced_object edit empty listed =
      let sets = sets_object (current old) (current new) tree it low h.trees_are (moment old.held 0) (marks_of old) (memory_view old).cursors (memory_view new).cursors edit empty listed in
      record { sound = refl; is = beside old new h.keeps ∙ sets.is }

  pub created : (o : Object) → heading it ≡ (o.shape, o.reals, description o) → o.shape ≢ Absent → plain_rows it ≡ []
      → SetsObject (memory_view old) (memory_view new) tree o.shape o.reals (put_row (object_row tree o))
  created o is there empty =
      let hs = padded (headings (current old)) tree in
      let shape : it.shape ≡ o.shape = ap (λ (x : Heading). x.0) is in
      let reals : reals_unless_absent it.shape it.reals ≡ o.reals = ap (λ (x : Heading). reals_unless_absent x.0 x.1) is ∙ present_reals o.shape o.reals there in
      let listed : objects_from 0 (set hs tree (heading it)) ≡ put_row (object_row tree o) (objects_from 0 hs) =
      ap (λ (x : Heading). objects_from 0 (set hs tree x)) is ∙ objects_from-set hs 0 tree tree (o.shape, o.reals, description o) (omega arith) (pad_length (headings (current old)) tree) there in
      (λ (it_is : SetsObject (memory_view old) (memory_view new) tree it.shape (reals_unless_absent it.shape it.reals) (put_row (object_row tree o))).
      subst (λ s. SetsObject (memory_view old) (memory_view new) tree s o.reals (put_row (object_row tree o))) shape
      (subst (λ r. SetsObject (memory_view old) (memory_view new) tree it.shape r (put_row (object_row tree o))) reals it_is)) (replaced_object (put_row (object_row tree o)) empty listed)

  pub destroyed : heading it ≡ no_heading → plain_rows it ≡ [] → SetsObject (memory_view old) (memory_view new) tree Absent 0 (without_rowid (pos (tree + 1)))
  destroyed is empty =
      let hs = padded (headings (current old)) tree in
      let shape : it.shape ≡ Absent = ap (λ (x : Heading). x.0) is in
      let listed : objects_from 0 (set hs tree (heading it)) ≡ without_rowid (pos (tree + 1)) (objects_from 0 hs) =
      ap (λ (x : Heading). objects_from 0 (set hs tree x)) is ∙ objects_from-unset hs 0 tree tree (omega arith) in
      (λ (it_is : SetsObject (memory_view old) (memory_view new) tree it.shape (reals_unless_absent it.shape it.reals) (without_rowid (pos (tree + 1)))).
      subst (λ s. SetsObject (memory_view old) (memory_view new) tree s (reals_unless_absent s it.reals) (without_rowid (pos (tree + 1)))) shape it_is)
      (replaced_object (without_rowid (pos (tree + 1))) empty listed)

module _ (old new : State) (tree : ℕ) (o : Object) (low : tree < 2 ^ 32) (h : Labels old new tree o) (shaped : shape_in (headings old) tree ≡ o.shape) (there : o.shape ≢ Absent)
    (base : State) (marks : List Snapshot) (was now : ℕ → Option (List Row)) where
  labelled_at : (k : ℕ) → get_or (headings new) k no_heading ≡ cond (eqb k tree) (shape_in (headings old) tree, o.reals, description o) (get_or (headings old) k no_heading)
  labelled_at k =
      ap (λ (hs : List Heading). get_or hs k no_heading) h.headings_are ∙ get_or-set_cases (padded (headings old) tree) tree _ no_heading (pad_length (headings old) tree) k
      ∙ ap (cond (eqb k tree) (shape_in (headings old) tree, o.reals, description o)) (pad_get (headings old) (tree + 1 - length (headings old)) k)

  same_kinds : shape_in (headings new) ≡ shape_in (headings old)
  same_kinds = fun_ext (λ k. ap (λ (x : Heading). x.0) (labelled_at k)
      ∙ (elim (cases_eq k tree) as (λ b. (cond (eqb k tree) (shape_in (headings old) tree, o.reals, description o) (get_or (headings old) k no_heading)).0 ≡ shape_in (headings old) k)
      [ inl same ↦ rw (eq-eqb k tree same, same) | inr other ↦ rw (ne_eqb k tree other) ]))

  other_bits : (shown new).reals ≡ set_at (shown old).reals tree o.reals
  other_bits =
      let each : reals_in (headings new) ≡ set_at (reals_in (headings old)) tree o.reals =
      fun_ext (λ k. ap (λ (x : Heading). reals_unless_absent x.0 x.1) (labelled_at k)
      ∙ (elim (eqb k tree) as (λ b. reals_unless_absent (cond b (shape_in (headings old) tree, o.reals, description o) (get_or (headings old) k no_heading)).0 (cond b (shape_in (headings old) tree, o.reals, description o) (get_or (headings old) k no_heading)).1 ≡ cond b o.reals (reals_in (headings old) k))
      [ true ↦ rw shaped (present_reals o.shape o.reals there) | false ↦ refl ])) in
      ap (λ (f : ℕ → ℕ). set_at (set_at f catalog_tree 0) version_tree 0) each
      ∙ ap (λ (f : ℕ → ℕ). set_at f version_tree 0) (turned (reals_in (headings old)) tree catalog_tree o.reals 0 (below_catalog tree low))
      ∙ under_version (set_at (reals_in (headings old)) catalog_tree 0) tree o.reals 0 (omega arith)

  pub relabelled : Relists (view_of old base marks was) (view_of new base marks now) ((tree, o) ∷ [])
  relabelled =
      let hs = padded (headings old) tree in
      let listed : objects_from 0 (headings new) ≡ put_row (object_row tree o) (objects_from 0 (headings old)) =
      let put_in : objects_from 0 (set hs tree (shape_in (headings old) tree, o.reals, description o)) ≡ put_row (object_row tree o) (objects_from 0 hs) =
      rw shaped (objects_from-set hs 0 tree tree (o.shape, o.reals, description o) (omega arith) (pad_length (headings old) tree) there) in
      ap (objects_from 0) h.headings_are ∙ put_in ∙ ap (put_row (object_row tree o)) (pad_objects (headings old) _ 0) in
      let rows = put_row (object_row tree o) (objects_from 0 (headings old)) in
      let forest_is : with_tree (rows_of new) catalog_tree (objects_from 0 (headings new)) ≡ with_tree (with_tree (rows_of old) catalog_tree (objects_from 0 (headings old))) catalog_tree rows =
      (λ i. with_tree (h.rows_are i) catalog_tree (listed i)) ∙ sym (over_itself (rows_of old) catalog_tree (objects_from 0 (headings old)) rows) in
      let all : (shown new).trees ≡ with_tree (shown old).trees catalog_tree rows =
      ap (with_version (with_tree (rows_of new) catalog_tree (objects_from 0 (headings new)))) h.version_is
      ∙ versioned_edit (with_tree (rows_of old) catalog_tree (objects_from 0 (headings old))) _ catalog_tree old.version (put_row (object_row tree o)) (omega arith) forest_is in
      record {
        sound = refl;
        is = λ i. record (view_of new base marks now) { trees = all i; shape = set_at (set_at (same_kinds i) catalog_tree Table) version_tree Table; reals = other_bits i };
      }

-- a tree that a call can name, by what the list of trees has there
module _ (s : Memory) (t : ℕ) (low : t < 2 ^ 32) where
  heading_shown : (found : Tree) → t < length s.held.trees.items → found ≡ get_or s.held.trees.items t found → get_or (headings (current s)) t no_heading ≡ heading (plain found)
  heading_shown found within is =
      shown_at heading (map plain s.held.trees.items) t no_heading (plain found) (rw length-map within) (sym (shown_at plain s.held.trees.items t (plain found) found within is))

  heading_gone : length s.held.trees.items ≤ t → get_or (headings (current s)) t no_heading ≡ no_heading
  heading_gone none = not_shown heading (map plain s.held.trees.items) t no_heading (rw length-map none)

  pub shape_shown : (found : Tree) → t < length s.held.trees.items → found ≡ get_or s.held.trees.items t found → (memory_view s).shape t ≡ found.shape
  shape_shown found within is = shape_at s t low ∙ ap (λ (h : Heading). h.0) (heading_shown found within is)

  pub shape_gone : length s.held.trees.items ≤ t → (memory_view s).shape t ≡ Absent
  shape_gone none = shape_at s t low ∙ ap (λ (h : Heading). h.0) (heading_gone none)

  reals_at : (memory_view s).reals t ≡ reals_in (headings (current s)) t
  reals_at = rw (unnumbered t low, named t low)

  pub reals_shown : (found : Tree) → t < length s.held.trees.items → found ≡ get_or s.held.trees.items t found → (memory_view s).reals t ≡ reals_unless_absent found.shape found.reals
  reals_shown found within is = reals_at ∙ ap (λ (h : Heading). reals_unless_absent h.0 h.1) (heading_shown found within is)

  pub reals_gone : length s.held.trees.items ≤ t → (memory_view s).reals t ≡ 0
  reals_gone none = reals_at ∙ ap (λ (h : Heading). reals_unless_absent h.0 h.1) (heading_gone none)

-- ---- a cursor

pub cursors_set : {X Y : Type 0} (f : X → Y) (was now : ℕ → Option X) (at : ℕ) (x : X) (y : Y) → f x ≡ y → ((k : ℕ) → now k ≡ cond (eqb k at) (Some x) (was k))
    → (k : ℕ) → option_map f (now k) ≡ cond (eqb k at) (Some y) (option_map f (was k))
cursors_set f was now at x y is sets k =
    ap (option_map f) (sets k) ∙ (elim (eqb k at) as (λ b. option_map f (cond b (Some x) (was k)) ≡ cond b (Some y) (option_map f (was k))) [ true ↦ ap Some is | false ↦ refl ])
