-- SPDX-License-Identifier: Apache-2.0
-- Trees that are listed as other objects, one after another.
use Rattle.mmemory.proofs.MemoryWords.{◌≡◌, ℕ, zero, suc, ◌+◌, ◌<◌, ◌≤◌, List, [], ◌∷◌, length, take, drop, get_or, Result, Ok, Err, OnOk, OnErr, is_err, true}
use Rattle.mmemory.proofs.MemoryWords.{false, true≢false, refl, sym, ap, ◌∙◌, arith, inl, AllByRecursion, take_more, length-map, Object, StoreError, Relists}
use Rattle.mmemory.proofs.MemoryWords.{MayRelist, FailsToRelist, shape_in, relists_more, Held, Memory, plain, heading, headings, shown, undone, now, moment}
use Rattle.mmemory.proofs.MemoryWords.{KeepsPast, KeepsShown, Relabels, memory_view, current, marks_of, all_kept, View}
use Rattle.mmemory.proofs.Views.{shape_at, present_within, beside, relabelled, fails}

pub each_at : {X : Type 0} (P : X → Type 0) (xs : List X) (at : ℕ) (d : X) → AllByRecursion P xs → at < length xs → P (get_or xs at d)
each_at P [] at d all within = absurd (omega arith)
each_at P (x ∷ xs) zero d all within = all.0
each_at P (x ∷ xs) (suc at) d all within = each_at P xs at d all.1 (omega arith)

module _ (s m : Memory) (done : List (ℕ × Object)) (change : ℕ × Object) (h : Relists (memory_view s) (memory_view m) done) (may : MayRelist (memory_view s) change) where
  -- a tree that may be listed again has its object's shape still, after some others were
  pub still_shaped : shape_in (headings (current m)) change.0 ≡ change.1.shape
  still_shaped = let low = may.low in sym (shape_at m change.0 (omega arith)) ∙ ap (λ (v : View). v.shape change.0) h.is ∙ may.shaped

  pub still_there : change.0 < length m.held.trees.items
  still_there = omega (arith, present_within (headings (current m)) change.0 (λ absent. may.present (sym still_shaped ∙ absent)), length-map (current m).trees heading, length-map m.held.trees.items plain)

pub more_relisted : (s m n : Memory) (all : List (ℕ × Object)) (at : ℕ) (d : ℕ × Object) → at < length all → Relists (memory_view s) (memory_view m) (take at all)
    → MayRelist (memory_view s) (get_or all at d) → Relabels m.held n.held (get_or all at d).0 (get_or all at d).1 → Relists (memory_view s) (memory_view n) (take (at + 1) all)
more_relisted s m n all at d within done may h =
    let change = get_or all at d in
    let low = may.low in
    let labels = relabelled (current m) (current n) change.0 change.1 (omega arith) h.labels (still_shaped s m (take at all) change done may) may.present (moment m.held 0) (marks_of m) (memory_view m).cursors (memory_view n).cursors in
    let one : Relists (memory_view m) (memory_view n) (change ∷ []) = record { sound = refl; is = beside m n h.keeps ∙ labels.is } in
    rw (take_more all at d within) (relists_more (memory_view s) (memory_view m) (memory_view n) (take at all) change done one)

-- back at a length of the log
pub went_back : (old new back : Held) (len : ℕ) → len ≡ length old.log.items → KeepsPast old new → ((k : ℕ) → k ≤ len → moment back k ≡ moment new k) → now back ≡ moment new len → len ≤ length back.log.items
    → back.marks.items ≡ new.marks.items → KeepsShown old back
went_back old new back len is h past at longer marks = record {
  keeps = record { past = λ k low. past k (omega (arith, is, low)) ∙ h.past k low; longer = omega (arith, is, longer); marks = marks ∙ h.marks };
  shown_is = ap shown (at ∙ h.past len (omega (arith, is)) ∙ ap (λ l. undone l (now old)) (ap (λ k. drop k old.log.items) is ∙ all_kept old.log.items));
}

pub fails_to_relist : (old new : Memory) (e : StoreError) → KeepsShown old.held new.held → FailsToRelist (memory_view old) (memory_view new) e
fails_to_relist old new e h =
    let it = fails old new {X = Unit {0}} (Err e) h in
    let kept = it.kept in
    record {
      shape = kept.committed_shape;
      reals = kept.committed_reals;
      numbered = refl;
      was_open = λ o. o;
      committed = kept.committed;
      marks = kept.marks;
      unchanged = it.unchanged;
      refused = λ clean same. it.refused clean (inl same);
    }

pub of_ok : {X E P : Type 0} (r : Result X E) → is_err r ≡ false → OnOk r P → P
of_ok (Ok x) is h = h
of_ok (Err e) is h = absurd (true≢false is)

pub of_err : {X E P : Type 0} (r : Result X E) → is_err r ≡ true → OnErr r P → P
of_err (Ok x) is h = absurd (true≢false (sym is))
of_err (Err e) is h = h
