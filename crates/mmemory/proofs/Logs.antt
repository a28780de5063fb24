-- SPDX-License-Identifier: Apache-2.0
-- A log with one more change.
use Rattle.mmemory.proofs.MemoryWords.{if◌then◌else◌, Result, Ok, Err, OnOk, OnErr, IsOk, is_ok, All, ◌≡◌, ◌⊎◌, ℕ, zero, suc, ◌+◌, ◌<◌, ◌≤◌, true, false, cond}
use Rattle.mmemory.proofs.MemoryWords.{eqb, List, [], ◌∷◌, ◌++◌, length, map, drop, set, get_or, refl, sym, ap, subst, ◌∙◌, arith, inl, inr, eq-eqb, ne_eqb}
use Rattle.mmemory.proofs.MemoryWords.{cases_eq, drop-append-le, map-set, set-get_or, get_or-set_same, length-map, length-append, map-set_same, ∥∥₁_map}
use Rattle.mmemory.proofs.MemoryWords.{∥∥₁_elim, Row, with_tree, IsShaped, get_or-set_cases, Tree, Undo, Held, Plain, nest, plain, no_plain, heading}
use Rattle.mmemory.proofs.MemoryWords.{plain_rows, undone_step, Makes, State, state_of, undone_one, undone, headings, rows_of, IsInOrder, AreInOrder, now}
use Rattle.mmemory.proofs.MemoryWords.{Keeps, Writes, shape_at, nest_at, Heading}
use Rattle.std.specs.Prelude.{slice_index}
use Rattle.sqlite_trees.specs.Props.{IsShaped-prop}
use mathlib.Core.Path.{fun_ext}
use Rattle.mmemory.specs.declared.step.Step.{Step}
use Rattle.mmemory.specs.declared.undo.Undo.TheVariants.{Step as OfTree}
use Rattle.mmemory.proofs.Shown.{drop_past, shown_at}

pub undone_more : (log : List Undo) (u : Undo) (s : State) → undone (log ++ u ∷ []) s ≡ undone log (undone_one u s)
undone_more [] u s = refl
undone_more (v ∷ log) u s = ap (undone_one v) (undone_more log u s)

-- no moment changes if what a change did is undone by what goes into the log
pub moment_more : (log : List Undo) (u : Undo) (old new : State) → undone_one u new ≡ old → (n : ℕ) → n ≤ length log → undone (drop n (log ++ u ∷ [])) new ≡ undone (drop n log) old
moment_more log u old new back n low = ap (λ l. undone l new) (drop-append-le n log (u ∷ []) low) ∙ undone_more (drop n log) u new ∙ ap (undone (drop n log)) back

cases_le : (a b : ℕ) → (a ≤ b) ⊎ (b + 1 ≤ a)
cases_le zero b = inl (omega arith)
cases_le (suc a) zero = inr (omega arith)
cases_le (suc a) (suc b) = elim (cases_le a b) [ inl h ↦ inl (omega arith) | inr h ↦ inr (omega arith) ]

-- a moment is one up to the log's length, or what is seen
pub order_more : (log : List Undo) (u : Undo) (old new : State) → undone_one u new ≡ old → AreInOrder log old → IsInOrder new → AreInOrder (log ++ u ∷ []) new
order_more log u old new back all it n = elim (cases_le n (length log)) [
  | inl low ↦ subst IsInOrder (sym (moment_more log u old new back n low)) (all n)
  | inr high ↦ subst (λ l. IsInOrder (undone l new)) (sym (drop_past n (log ++ u ∷ []) (omega (arith, length-append log (u ∷ []))))) it
]

-- the newest change taken back
pub moment_less : (log : List Undo) (u : Undo) (was new : State) → new ≡ undone_one u was → (n : ℕ) → n ≤ length log → undone (drop n log) new ≡ undone (drop n (log ++ u ∷ [])) was
moment_less log u was new is n low = ap (undone (drop n log)) is ∙ sym (undone_more (drop n log) u was) ∙ ap (λ l. undone l was) (sym (drop-append-le n log (u ∷ []) low))

pub order_less : (log all : List Undo) (u : Undo) (was new : State) → all ≡ log ++ u ∷ [] → new ≡ undone_one u was → ∥ AreInOrder all was ∥₁ → ∥ AreInOrder log new ∥₁
order_less log all u was new are is old = ∥∥₁_map old (λ h n. elim (cases_le n (length log)) [
  | inl low ↦ subst IsInOrder (sym (moment_less log u was new is n low)) (subst (λ l. IsInOrder (undone (drop n l) was)) are (h n))
  | inr high ↦
      let ends : drop n log ≡ drop (length log) log = drop_past n log (omega arith) ∙ sym (drop_past (length log) log (omega arith)) in
      subst (λ l. IsInOrder (undone l new)) (sym ends) (subst IsInOrder (sym (moment_less log u was new is (length log) (omega arith))) (subst (λ l. IsInOrder (undone (drop (length log) l) was)) are (h (length log))))
])

pub when_ok : {X E A : Type 0} (r : Result X E) (a b : A) → IsOk r → (if is_ok r then a else b) ≡ a
when_ok r a b ok = ap (λ t. if t then a else b) ok

-- one more change in a log that had space
pub pushed : {X E : Type 0} (old room new : List Undo) (u : Undo) (r : Result X E) → IsOk r → room ≡ old → new ≡ (if is_ok r then room ++ u ∷ [] else room) → new ≡ old ++ u ∷ []
pushed old room new u r ok same is = is ∙ when_ok r _ _ ok ∙ ap (λ l. l ++ u ∷ []) same

-- ---- one tree

set_back : (f : Plain → Plain) (trees : List Plain) (t : ℕ) (p : Plain) → t < length trees → f p ≡ get_or trees t no_plain → set (set trees t p) t (f (get_or (set trees t p) t no_plain)) ≡ trees
set_back f [] t p low is = refl
set_back f (x ∷ trees) zero p low is = ap (λ y. y ∷ trees) is
set_back f (x ∷ trees) (suc t) p low is = ap (λ l. x ∷ l) (set_back f trees t p (omega arith) is)

module _ (old : List Plain) (v t : ℕ) (it : Plain) (low : t < length old) where
  abbrev pub now_of : State
  now_of = record { trees = set old t it; version = v }

  abbrev pub was : State
  was = record { trees = old; version = v }

  pub step_back : (step : Step) → undone_step step it ≡ get_or old t no_plain → undone_one (OfTree t step) now_of ≡ was
  step_back step back = λ i. record { trees = set_back (undone_step step) old t it low back i; version = v }

  pub in_order : IsInOrder was → IsShaped it.shape (plain_rows it) → IsInOrder now_of
  in_order all shaped k =
      subst (λ (p : Plain). IsShaped p.shape (plain_rows p)) (sym (get_or-set_cases old t it no_plain low k))
      (elim (eqb k t) as (λ b. IsShaped (cond b it (get_or old k no_plain)).shape (plain_rows (cond b it (get_or old k no_plain)))) [ true ↦ shaped | false ↦ all k ])

  pub same_headings : heading it ≡ heading (get_or old t no_plain) → headings now_of ≡ headings was
  same_headings is = map-set_same heading old t it no_plain is

  pub other_rows : rows_of now_of ≡ with_tree (rows_of was) t (plain_rows it)
  other_rows = fun_ext (λ k. ap plain_rows (get_or-set_cases old t it no_plain low k)
      ∙ (elim (eqb k t) as (λ b. plain_rows (cond b it (get_or old k no_plain)) ≡ cond b (plain_rows it) (plain_rows (get_or old k no_plain))) [ true ↦ refl | false ↦ refl ]))

-- ---- the trees with one changed

module _ (log more : List Undo) (trees : List Tree) (v t : ℕ) (y x : Tree) (step : Step) (rows : List Row) (low : t < length trees) (is : y ≡ get_or trees t y) (m : Makes (plain y) (plain x) step rows) (logged : more ≡ log ++ OfTree t step ∷ []) where
  here : get_or (map plain trees) t no_plain ≡ plain y
  here = shown_at plain trees t no_plain y low is

  below : t < length (map plain trees)
  below = omega (arith, low, length-map trees plain)

  same_state : state_of (set trees t x) v ≡ record { trees = set (map plain trees) t (plain x); version = v }
  same_state = λ i. record { trees = map-set plain trees t x i; version = v }

  taken_back : undone_one (OfTree t step) (state_of (set trees t x) v) ≡ state_of trees v
  taken_back = ap (undone_one (OfTree t step)) same_state ∙ step_back (map plain trees) v t (plain x) below step (m.back ∙ sym here)

  pub past_kept : (n : ℕ) → n ≤ length log → undone (drop n more) (state_of (set trees t x) v) ≡ undone (drop n log) (state_of trees v)
  past_kept n small = ap (λ l. undone (drop n l) (state_of (set trees t x) v)) logged ∙ moment_more log (OfTree t step) (state_of trees v) (state_of (set trees t x) v) taken_back n small

  pub order_kept : IsShaped (get_or (map plain trees) t no_plain).shape rows → ∥ AreInOrder log (state_of trees v) ∥₁ → ∥ AreInOrder more (state_of (set trees t x) v) ∥₁
  order_kept shaped old =
      let kind : (plain x).shape ≡ (get_or (map plain trees) t no_plain).shape = ap (λ (h : Heading). h.0) m.heading_is ∙ ap (λ (p : Plain). p.shape) (sym here) in
      let fits : IsShaped (plain x).shape (plain_rows (plain x)) = subst (λ k. IsShaped k (plain_rows (plain x))) (sym kind) (subst (IsShaped (get_or (map plain trees) t no_plain).shape) (sym m.rows_are) shaped) in
      ∥∥₁_map old (λ all.
      let now_in : IsInOrder (state_of trees v) = subst (λ l. IsInOrder (undone l (state_of trees v))) (drop_past (length log) log (omega arith)) (all (length log)) in
      let new_in : IsInOrder (state_of (set trees t x) v) = subst IsInOrder (sym same_state) (in_order (map plain trees) v t (plain x) below now_in fits) in
      subst (λ l. AreInOrder l (state_of (set trees t x) v)) (sym logged) (order_more log (OfTree t step) (state_of trees v) (state_of (set trees t x) v) taken_back all new_in))

  pub headings_kept : headings (state_of (set trees t x) v) ≡ headings (state_of trees v)
  headings_kept = ap headings same_state ∙ same_headings (map plain trees) v t (plain x) below (m.heading_is ∙ ap heading (sym here))

  pub rows_kept : rows_of (state_of (set trees t x) v) ≡ with_tree (rows_of (state_of trees v)) t rows
  rows_kept = ap rows_of same_state ∙ other_rows (map plain trees) v t (plain x) below ∙ ap (with_tree (rows_of (state_of trees v)) t) m.rows_are

-- the marks stay within a longer log
pub within_more : (marks : List ℕ) (log more : List Undo) (u : Undo) → more ≡ log ++ u ∷ [] → All (λ n. n ≤ length log) marks → All (λ n. n ≤ length more) marks
within_more marks log more u is all k d low = omega (arith, all k d low, ap length is, length-append log (u ∷ []))

-- a log with more space is the same log
module _ (h : Held) (log : List Undo) (same : log ≡ h.log.items) where
  pub order_same : ∥ AreInOrder log (now h) ∥₁
  order_same = subst (λ l. ∥ AreInOrder l (now h) ∥₁) (sym same) h.ordered

  pub within_same : All (λ n. n ≤ length log) h.marks.items
  within_same = subst (λ l. All (λ n. n ≤ length l) h.marks.items) (sym same) h.within

-- the chunks of a tree, by its number
pub nest_here : (h : Held) (t : ℕ) (y : Tree) → t < length h.trees.items → y ≡ get_or h.trees.items t y → nest_at h t ≡ nest y.chunks.items
nest_here h t y low is = ap (λ (p : Plain). p.chunks) (shown_at plain h.trees.items t no_plain y low is)

-- what a change makes of a tree, by the number of the tree
pub made_at : (h : Held) (t : ℕ) (y x : Tree) (step : Step) (rows : List (List Row) → List Row) → t < length h.trees.items → y ≡ get_or h.trees.items t y
    → Makes (plain y) (plain x) step (rows (nest y.chunks.items)) → Makes (plain y) (plain x) step (rows (nest_at h t))
made_at h t y x step rows low is = subst (λ n. Makes (plain y) (plain x) step (rows n)) (sym (nest_here h t y low is))

pub wrote : (old new : Held) (t : ℕ) (y x : Tree) (step : Step) (rows : List Row) → t < length old.trees.items → y ≡ get_or old.trees.items t y → Makes (plain y) (plain x) step rows
    → new.trees.items ≡ set old.trees.items t x → new.version ≡ old.version → new.log.items ≡ old.log.items ++ OfTree t step ∷ [] → new.marks.items ≡ old.marks.items → Writes old new t rows
wrote old new t y x step rows low is m trees version logged marks =
    let same : now new ≡ state_of (set old.trees.items t x) old.version = λ i. state_of (trees i) (version i) in
    record {
      keeps = record {
        past = λ n small. ap (undone (drop n new.log.items)) same ∙ past_kept old.log.items new.log.items old.trees.items old.version t y x step rows low is m logged n small;
        longer = omega (arith, ap length logged, length-append old.log.items (OfTree t step ∷ []));
        marks = marks;
      };
      headings_are = ap headings same ∙ headings_kept old.log.items new.log.items old.trees.items old.version t y x step rows low is m logged;
      rows_are = ap rows_of same ∙ rows_kept old.log.items new.log.items old.trees.items old.version t y x step rows low is m logged;
      version_is = version;
    }

-- ---- a log that is forgotten

pub order_now : (h : Held) → ∥ IsInOrder (now h) ∥₁
order_now h = ∥∥₁_map h.ordered (λ all. subst (λ l. IsInOrder (undone l (now h))) (drop_past (length h.log.items) h.log.items (omega arith)) (all (length h.log.items)))

pub order_forgotten : (h : Held) (log : List Undo) → log ≡ [] → ∥ AreInOrder log (now h) ∥₁
order_forgotten h log none = ∥∥₁_map (order_now h) (λ it n. subst (λ l. IsInOrder (undone l (now h))) (sym (ap (drop n) none ∙ drop_past n [] (omega arith))) it)

pub no_marks : (marks : List ℕ) (log : List Undo) → marks ≡ [] → All (λ n. n ≤ length log) marks
no_marks marks log none k d low = absurd (omega (arith, ap length none))

pub no_rise : (marks : List ℕ) → marks ≡ [] → (i j : ℕ) → i ≤ j → j < length marks → slice_index marks i ≤ slice_index marks j
no_rise marks none i j up low = absurd (omega (arith, ap length none))

-- ---- a tree that is as it was

pub after_error : {X E : Type 0} {P : Type 0} (r : Result X E) → P → OnErr r P
after_error (Ok x) p = tt
after_error (Err e) p = p

pub untouched : (trees : List Tree) (v t : ℕ) (y x : Tree) → t < length trees → y ≡ get_or trees t y → plain x ≡ plain y → state_of (set trees t x) v ≡ state_of trees v
untouched trees v t y x low is same =
    let all : map plain (set trees t x) ≡ map plain trees = map-set plain trees t x ∙ ap (set (map plain trees) t) (same ∙ sym (shown_at plain trees t no_plain y low is)) ∙ set-get_or (map plain trees) t no_plain in
    λ i. record { trees = all i; version = v }

pub order_untouched : (h : Held) (log : List Undo) (s : State) → log ≡ h.log.items → s ≡ now h → ∥ AreInOrder log s ∥₁
order_untouched h log s same is = subst (λ q. ∥ AreInOrder log q ∥₁) (sym is) (order_same h log same)

pub keeps_untouched : (old new : Held) → now new ≡ now old → new.log.items ≡ old.log.items → new.marks.items ≡ old.marks.items → new.version ≡ old.version → Keeps old new
keeps_untouched old new is log marks version = record {
  keeps = record { past = λ n low. (λ i. undone (drop n (log i)) (is i)); longer = omega (arith, ap length log); marks = marks };
  headings_are = ap headings is;
  rows_are = ap rows_of is;
  version_is = version;
}

pub shaped_now : (h : Held) (t : ℕ) → IsShaped (shape_at h t) (rows_of (now h) t)
shaped_now h t = ∥∥₁_elim (order_now h) (IsShaped-prop (shape_at h t) (rows_of (now h) t)) (λ it. it t)

-- a tree whose rows are as they were
pub wrote_same : (old new : Held) (t : ℕ) → Writes old new t (rows_of (now old) t) → Keeps old new
wrote_same old new t w = record {
  keeps = w.keeps;
  headings_are = w.headings_are;
  rows_are = w.rows_are ∙ fun_ext (λ k. elim (cases_eq k t) [ inl same ↦ rw (eq-eqb k t same, same) refl | inr other ↦ rw (ne_eqb k t other) refl ]);
  version_is = w.version_is;
}

-- what holds of the chunks of a tree before a change and after it
pub both_seen : (h : Held) (t : ℕ) (y x : Tree) → t < length h.trees.items → y ≡ get_or h.trees.items t y → (P : List (List Row) → List (List Row) → Type 0) → P (nest y.chunks.items) (nest x.chunks.items)
    → P (nest_at h t) ((get_or (map plain (set h.trees.items t x)) t no_plain).chunks)
both_seen h t y x low is P both =
    let made : (get_or (map plain (set h.trees.items t x)) t no_plain).chunks ≡ nest x.chunks.items =
    ap (λ (ps : List Plain). (get_or ps t no_plain).chunks) (map-set plain h.trees.items t x) ∙ ap (λ (p : Plain). p.chunks) (get_or-set_same (map plain h.trees.items) t (plain x) no_plain (omega (arith, low, length-map h.trees.items plain))) in
    subst (λ n. P n ((get_or (map plain (set h.trees.items t x)) t no_plain).chunks)) (sym (nest_here h t y low is)) (subst (P (nest y.chunks.items)) (sym made) both)

-- ---- one change after another

pub ok_weaker : {X E : Type 0} {P Q : Type 0} (r : Result X E) → (P → Q) → OnOk r P → OnOk r Q
ok_weaker (Ok x) f h = f h
ok_weaker (Err e) f h = tt

heading_at : (trees : List Plain) (t : ℕ) → heading (get_or trees t no_plain) ≡ get_or (map heading trees) t (heading no_plain)
heading_at [] t = refl
heading_at (x ∷ trees) zero = refl
heading_at (x ∷ trees) (suc t) = heading_at trees t

module _ (old mid : Held) (same : headings (now mid) ≡ headings (now old)) where
  pub same_shape : (t : ℕ) → shape_at mid t ≡ shape_at old t
  same_shape t = ap (λ (h : Heading). h.0) (heading_at (now mid).trees t ∙ ap (λ hs. get_or hs t (heading no_plain)) same ∙ sym (heading_at (now old).trees t))

  pub same_count : length mid.trees.items ≡ length old.trees.items
  same_count = omega (arith, ap length same, length-map (now mid).trees heading, length-map (now old).trees heading, length-map mid.trees.items plain, length-map old.trees.items plain)

pub then_wrote : (old mid new : Held) (t : ℕ) (rows : List Row) → Keeps old mid → Writes mid new t rows → Writes old new t rows
then_wrote old mid new t rows k w = record {
  keeps = record {
    past = λ n low. w.keeps.past n (omega (arith, k.keeps.longer, low)) ∙ k.keeps.past n low;
    longer = omega (arith, k.keeps.longer, w.keeps.longer);
    marks = w.keeps.marks ∙ k.keeps.marks;
  };
  headings_are = w.headings_are ∙ k.headings_are;
  rows_are = w.rows_are ∙ ap (λ trees. with_tree trees t rows) k.rows_are;
  version_is = w.version_is ∙ k.version_is;
}
