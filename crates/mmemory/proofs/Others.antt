-- SPDX-License-Identifier: Apache-2.0
-- Trees that are made, replaced and described, with what the log has to take that back.
use Rattle.mmemory.proofs.MemoryWords.{◌≡◌, ℕ, zero, suc, ◌+◌, ◌-◌, ◌<◌, ◌≤◌, List, [], ◌∷◌, ◌++◌, length, map, take, drop, replicate, set, get_or, refl, sym}
use Rattle.mmemory.proofs.MemoryWords.{ap, subst, ◌∙◌, arith, ∥∥₁_map, take-append_seam, append-nil, map-append, map-set, length-map, length-append, Row}
use Rattle.mmemory.proofs.MemoryWords.{Object, Shape, Absent, Table, Index, Pageless, FrozenTable, FrozenIndex, Heading, no_heading, shape_in, reals_in}
use Rattle.mmemory.proofs.MemoryWords.{reals_unless_absent, padded, snapshot_of, catalog_tree, version_tree, set_at, with_version, description, Trees}
use Rattle.mmemory.proofs.MemoryWords.{with_tree, IsShaped, Tree, Undo, Put, Shorten, Held, Plain, plain, no_plain, heading, plain_rows, Describes, State}
use Rattle.mmemory.proofs.MemoryWords.{state_of, undone_one, undone, headings, rows_of, shown, IsInOrder, AreInOrder, Labels, now, moment, KeepsPast}
use Rattle.mmemory.proofs.MemoryWords.{KeepsShown, Pads, Puts, Relabels}
use mathlib.Core.Path.{fun_ext}
use Rattle.mmemory.specs.declared.step.Step.{Step}
use Rattle.std.proofs.Common.{Box, Global}
use Rattle.mmemory.specs.declared.undo.Undo.TheVariants.{Step as OfTree}
use Rattle.mmemory.proofs.Shown.{drop_past, shown_at}
use Rattle.mmemory.proofs.Backs.{set_back}
use Rattle.mmemory.proofs.Logs.{moment_more, order_more, step_back, in_order, other_rows}
use Rattle.mmemory.proofs.Views.{pad_get, pad_objects, stays_at}

-- ---- one more change in the log

module _ (h : Held) (more : List Undo) (u : Undo) (new : State) (logged : more ≡ h.log.items ++ u ∷ []) (back : undone_one u new ≡ now h) where
  pub order_by : (IsInOrder (now h) → IsInOrder new) → ∥ AreInOrder more new ∥₁
  order_by it = ∥∥₁_map h.ordered (λ all.
      let was : IsInOrder (now h) = subst (λ l. IsInOrder (undone l (now h))) (drop_past (length h.log.items) h.log.items (omega arith)) (all (length h.log.items)) in
      subst (λ l. AreInOrder l new) (sym logged) (order_more h.log.items u (now h) new back all (it was)))

  pub past_by : (n : ℕ) → n ≤ length h.log.items → undone (drop n more) new ≡ moment h n
  past_by n low = ap (λ l. undone (drop n l) new) logged ∙ moment_more h.log.items u (now h) new back n low

pub kept_by : (old new : Held) (u : Undo) → new.log.items ≡ old.log.items ++ u ∷ [] → undone_one u (now new) ≡ now old → new.marks.items ≡ old.marks.items
    → KeepsPast old new
kept_by old new u logged back marks = record {
  past = past_by old new.log.items u (now new) logged back;
  longer = omega (arith, ap length logged, length-append old.log.items (u ∷ []));
  marks = marks;
}

pub kept_both : (a b c : Held) → KeepsPast a b → KeepsPast b c → KeepsPast a c
kept_both a b c ab bc = record {
  past = λ n low. bc.past n (omega (arith, low, ab.longer)) ∙ ab.past n low;
  longer = omega (arith, ab.longer, bc.longer);
  marks = bc.marks ∙ ab.marks;
}

pub kept_same : (old new : Held) → now new ≡ now old → new.log.items ≡ old.log.items → new.marks.items ≡ old.marks.items → KeepsPast old new
kept_same old new is log marks = record { past = λ n low. (λ i. undone (drop n (log i)) (is i)); longer = omega (arith, ap length log); marks = marks }

-- ---- trees that are not there

none_there : (n k : ℕ) → get_or (replicate n no_plain) k no_plain ≡ no_plain
none_there zero k = refl
none_there (suc n) zero = refl
none_there (suc n) (suc k) = none_there n k

same_tree : (trees : List Plain) (n k : ℕ) → get_or (trees ++ replicate n no_plain) k no_plain ≡ get_or trees k no_plain
same_tree [] n k = none_there n k
same_tree (x ∷ trees) n zero = refl
same_tree (x ∷ trees) n (suc k) = same_tree trees n k

same_headings : (trees : List Plain) (n : ℕ) → map heading (trees ++ replicate n no_plain) ≡ map heading trees ++ replicate n no_heading
same_headings [] zero = refl
same_headings [] (suc n) = ap (λ hs. no_heading ∷ hs) (same_headings [] n)
same_headings (x ∷ trees) n = ap (λ hs. heading x ∷ hs) (same_headings trees n)

module _ (trees more : List Tree) (v n : ℕ) (none : map plain more ≡ replicate n no_plain) where
  pub with_none : map plain (trees ++ more) ≡ map plain trees ++ replicate n no_plain
  with_none = map-append plain trees more ∙ ap (λ l. map plain trees ++ l) none

  pub shortened : (len : ℕ) → len ≡ length trees → undone_one (Shorten len) (state_of (trees ++ more) v) ≡ state_of trees v
  shortened len is =
      let at : len ≡ length (map plain trees) = is ∙ sym (length-map trees plain) in
      let all : take len (map plain (trees ++ more)) ≡ map plain trees = (λ i. take (at i) (with_none i)) ∙ take-append_seam (map plain trees) (replicate n no_plain) in
      λ i. record { trees = all i; version = v }

  pub order_padded : IsInOrder (state_of trees v) → IsInOrder (state_of (trees ++ more) v)
  order_padded all k =
      let same : get_or (map plain (trees ++ more)) k no_plain ≡ get_or (map plain trees) k no_plain = ap (λ l. get_or l k no_plain) with_none ∙ same_tree (map plain trees) n k in
      subst (λ (p : Plain). IsShaped p.shape (plain_rows p)) (sym same) (all k)

pub pads_more : (old new : Held) (tree len n : ℕ) (more : List Tree) → map plain more ≡ replicate n no_plain → len ≡ length old.trees.items
    → n ≡ tree + 1 - length old.trees.items
    → new.trees.items ≡ old.trees.items ++ more → new.version ≡ old.version → new.log.items ≡ old.log.items ++ Shorten len ∷ [] → new.marks.items ≡ old.marks.items → Pads old new tree
pads_more old new tree len n more none len_is n_is trees version logged marks =
    let same : now new ≡ state_of (old.trees.items ++ more) old.version = λ i. state_of (trees i) (version i) in
    let back : undone_one (Shorten len) (now new) ≡ now old = ap (undone_one (Shorten len)) same ∙ shortened old.trees.items more old.version n none len len_is in
    record {
      keeps = kept_by old new (Shorten len) logged back marks;
      trees_are = ap (λ (s : State). s.trees) same ∙ with_none old.trees.items more old.version n none ∙ ap (λ k. (now old).trees ++ replicate k no_plain) n_is;
      version_is = version;
    }

padded_snapshot : (hs : List Heading) (n : ℕ) (rows : Trees) (v : ℕ) → snapshot_of (hs ++ replicate n no_heading) rows v ≡ snapshot_of hs rows v
padded_snapshot hs n rows v =
    let kinds : shape_in (hs ++ replicate n no_heading) ≡ shape_in hs = fun_ext (λ k. ap (λ (h : Heading). h.0) (pad_get hs n k)) in
    let bits : reals_in (hs ++ replicate n no_heading) ≡ reals_in hs = fun_ext (λ k. ap (λ (h : Heading). reals_unless_absent h.0 h.1) (pad_get hs n k)) in
    λ i. record {
      trees = with_version (with_tree rows catalog_tree (pad_objects hs n 0 i)) v;
      shape = set_at (set_at (kinds i) catalog_tree Table) version_tree Table;
      reals = set_at (set_at (bits i) catalog_tree 0) version_tree 0;
    }

module _ (old new : Held) (tree : ℕ) (p : Pads old new tree) where
  pub padded_rows : rows_of (now new) ≡ rows_of (now old)
  padded_rows = fun_ext (λ k. ap plain_rows (ap (λ l. get_or l k no_plain) p.trees_are ∙ same_tree (now old).trees (tree + 1 - length old.trees.items) k))

  pub padded_headings : headings (now new) ≡ headings (now old) ++ replicate (tree + 1 - length old.trees.items) no_heading
  padded_headings = ap (map heading) p.trees_are ∙ same_headings (now old).trees (tree + 1 - length old.trees.items)

  pub padded_shown : KeepsShown old new
  padded_shown = record {
    keeps = p.keeps;
    shown_is =
        (λ i. snapshot_of (padded_headings i) (padded_rows i) (p.version_is i)) ∙ padded_snapshot (headings (now old)) (tree + 1 - length old.trees.items)
        (rows_of (now old)) old.version;
  }

pub shown_kept : (old mid new : Held) → KeepsShown old mid → now new ≡ now mid → new.log.items ≡ mid.log.items → new.marks.items ≡ mid.marks.items
    → KeepsShown old new
shown_kept old mid new h is log marks = record { keeps = kept_both old mid new h.keeps (kept_same mid new is log marks); shown_is = ap shown is ∙ h.shown_is }

-- ---- another tree in place of one

none_shaped : (s : Shape) → IsShaped s []
none_shaped Absent = refl
none_shaped Pageless = refl
none_shaped Table = (tt, tt)
none_shaped FrozenTable = (tt, tt)
none_shaped (Index o) = tt
none_shaped (FrozenIndex o) = tt

module _ (trees : List Tree) (v t : ℕ) (y x : Tree) (low : t < length trees) where
  same_state : state_of (set trees t x) v ≡ record { trees = set (map plain trees) t (plain x); version = v }
  same_state = λ i. record { trees = map-set plain trees t x i; version = v }

  below : t < length (map plain trees)
  below = omega (arith, low, length-map trees plain)

  pub put_undone : (kept : Box Tree Global) → kept.value ≡ y → y ≡ get_or trees t y → undone_one (Put t kept) (state_of (set trees t x) v) ≡ state_of trees v
  put_undone kept holds is =
      let here : plain kept.value ≡ get_or (map plain trees) t no_plain = ap plain holds ∙ sym (shown_at plain trees t no_plain y low is) in
      ap (undone_one (Put t kept)) same_state ∙ (λ i. record { trees = set (set (map plain trees) t (plain x)) t (here i); version = v })
      ∙ (λ i. record { trees = set_back t (plain x) (map plain trees) no_plain i; version = v })

  pub put_order : IsShaped (plain x).shape (plain_rows (plain x)) → IsInOrder (state_of trees v) → IsInOrder (state_of (set trees t x) v)
  put_order fits all = subst IsInOrder (sym same_state) (in_order (map plain trees) v t (plain x) below all fits)

  pub put_rows : rows_of (state_of (set trees t x) v) ≡ with_tree (rows_of (state_of trees v)) t (plain_rows (plain x))
  put_rows = ap rows_of same_state ∙ other_rows (map plain trees) v t (plain x) below

  pub put_headings : headings (state_of (set trees t x) v) ≡ set (headings (state_of trees v)) t (heading (plain x))
  put_headings = ap headings same_state ∙ map-set heading (map plain trees) t (plain x)

pub empty_fits : (x : Tree) → x.chunks.items ≡ [] → IsShaped (plain x).shape (plain_rows (plain x))
empty_fits x none =
    subst
    (λ cs. IsShaped x.shape (plain_rows (record { shape = x.shape; reals = x.reals; described = x.described; chunks = map (λ c. c.rows.items) cs; spare = x.spare })))
    (sym none) (none_shaped x.shape)

pub order_put : (h : Held) (more : List Undo) (t : ℕ) (y x : Tree) (kept : Box Tree Global) → more ≡ h.log.items ++ Put t kept ∷ [] → kept.value ≡ y → t < length h.trees.items
    → y ≡ get_or h.trees.items t y → IsShaped (plain x).shape (plain_rows (plain x)) → ∥ AreInOrder more (state_of (set h.trees.items t x) h.version) ∥₁
order_put h more t y x kept logged holds low is fits =
    order_by h more (Put t kept) (state_of (set h.trees.items t x) h.version) logged (put_undone h.trees.items h.version t y x low kept holds is)
    (put_order h.trees.items h.version t y x low fits)

pub puts_in : (old mid new : Held) (t : ℕ) (y x it : Tree) (kept : Box Tree Global) → kept.value ≡ y → x ≡ it → Pads old mid t → t < length mid.trees.items
    → y ≡ get_or mid.trees.items t y
    → new.trees.items ≡ set mid.trees.items t x → new.version ≡ mid.version → new.log.items ≡ mid.log.items ++ Put t kept ∷ [] → new.marks.items ≡ mid.marks.items → Puts old new t (plain it)
puts_in old mid new t y x it kept holds same_it p low is trees version logged marks =
    let same : now new ≡ state_of (set mid.trees.items t x) mid.version = λ i. state_of (trees i) (version i) in
    let back : undone_one (Put t kept) (now new) ≡ now mid = ap (undone_one (Put t kept)) same ∙ put_undone mid.trees.items mid.version t y x low kept holds is in
    let count : length (headings (now old)) ≡ length old.trees.items = length-map (now old).trees heading ∙ length-map old.trees.items plain in
    let puts : Puts old new t (plain x) = record {
      keeps = kept_both old mid new p.keeps (kept_by mid new (Put t kept) logged back marks);
      trees_are = record {
        headings_are =
            ap headings same ∙ put_headings mid.trees.items mid.version t y x low ∙ ap (λ hs. set hs t (heading (plain x))) (padded_headings old mid t p)
            ∙ ap (λ n. set (headings (now old) ++ replicate (t + 1 - n) no_heading) t (heading (plain x))) (sym count);
        rows_are =
            ap rows_of same ∙ put_rows mid.trees.items mid.version t y x low ∙ ap (λ rows. with_tree rows t (plain_rows (plain x))) (padded_rows old mid t p);
        version_is = version ∙ p.version_is;
      };
    } in
    subst (λ (w : Tree). Puts old new t (plain w)) same_it puts

-- ---- a tree that is another object

module _ (trees : List Tree) (v t : ℕ) (y x : Tree) (step : Step) (reals : ℕ) (described : Row) (low : t < length trees) (is : y ≡ get_or trees t y) (d : Describes (plain y) (plain x) step reals described) where
  there : get_or (map plain trees) t no_plain ≡ plain y
  there = shown_at plain trees t no_plain y low is

  under : t < length (map plain trees)
  under = omega (arith, low, length-map trees plain)

  pub label_undone : undone_one (OfTree t step) (state_of (set trees t x) v) ≡ state_of trees v
  label_undone = ap (undone_one (OfTree t step)) (same_state trees v t y x low) ∙ step_back (map plain trees) v t (plain x) under step (d.back ∙ sym there)

  same_rows : plain_rows (plain x) ≡ rows_of (state_of trees v) t
  same_rows = ap plain_rows d.new_is ∙ ap plain_rows (sym there)

  pub label_order : IsInOrder (state_of trees v) → IsInOrder (state_of (set trees t x) v)
  label_order all =
      let kind : (plain x).shape ≡ (get_or (map plain trees) t no_plain).shape = ap (λ (p : Plain). p.shape) d.new_is ∙ ap (λ (p : Plain). p.shape) (sym there) in
      put_order trees v t y x low (subst (λ k. IsShaped k (plain_rows (plain x))) (sym kind) (subst (IsShaped (get_or (map plain trees) t no_plain).shape) (sym same_rows) (all t))) all

  labels_as : (o : Object) → reals ≡ o.reals → described ≡ description o → Labels (state_of trees v) (state_of (set trees t x) v) t o
  labels_as o reals_are described_is =
      let was = state_of trees v in
      let at : get_or (headings was) t no_heading ≡ heading (plain y) = shown_at heading (map plain trees) t no_heading (plain y) under (sym (shown_at plain trees t (plain y) y low is)) in
      let kind : (plain x).shape ≡ shape_in (headings was) t = ap (λ (p : Plain). p.shape) d.new_is ∙ ap (λ (h : Heading). h.0) (sym at) in
      let bits : (plain x).reals ≡ o.reals = ap (λ (p : Plain). p.reals) d.new_is ∙ reals_are in
      let text : (plain x).described ≡ description o = ap (λ (p : Plain). p.described) d.new_is ∙ described_is in
      let head : heading (plain x) ≡ (shape_in (headings was) t, o.reals, description o) = λ i. (kind i, bits i, text i) in
      let none : t + 1 - length (headings was) ≡ 0 = omega (arith, under, length-map (map plain trees) heading) in
      let all : padded (headings was) t ≡ headings was = ap (λ n. headings was ++ replicate n no_heading) none ∙ append-nil (headings was) in
      record {
        headings_are = put_headings trees v t y x low ∙ ap (λ hs. set hs t (heading (plain x))) (sym all) ∙ ap (λ h. set (padded (headings was) t) t h) head;
        rows_are = put_rows trees v t y x low ∙ stays_at (rows_of was) t (plain_rows (plain x)) same_rows;
        version_is = refl;
      }

pub relabels_in : (old new : Held) (t : ℕ) (y x : Tree) (step : Step) (reals : ℕ) (described : Row) (low : t < length old.trees.items) (is : y ≡ get_or old.trees.items t y) (d : Describes (plain y) (plain x) step reals described)
    (o : Object) → reals ≡ o.reals → described ≡ description o → new.trees.items ≡ set old.trees.items t x → new.version ≡ old.version → new.log.items ≡ old.log.items ++ OfTree t step ∷ [] → new.marks.items ≡ old.marks.items
    → Relabels old new t o
relabels_in old new t y x step reals described low is d o reals_are described_is trees version logged marks =
    let same : now new ≡ state_of (set old.trees.items t x) old.version = λ i. state_of (trees i) (version i) in
    record {
      keeps =
          kept_by old new (OfTree t step) logged
          (ap (undone_one (OfTree t step)) same ∙ label_undone old.trees.items old.version t y x step reals described low is d) marks;
      labels =
          subst (λ s. Labels (now old) s t o) (sym same) (labels_as old.trees.items old.version t y x step reals described low is d o reals_are described_is);
    }
