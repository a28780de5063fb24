-- SPDX-License-Identifier: Apache-2.0
use Rattle.mmemory.proofs.MemoryLaws.{All, ◌≡◌, ℕ, zero, suc, ◌-◌, ◌<◌, ◌≤◌, List, [], ◌∷◌, length, slice_get, get_or, Some, map, refl, sym, ap, ◌∙◌, arith}
use Rattle.mmemory.proofs.MemoryLaws.{newest, snapshot, Memory, shown, moment, memory_view, view_of, current, marks_of, slice_index, map_same, newest_mark}
use Rattle.mmemory.proofs.memory.MemoryStore.rollback_to.Goals as goal

found_at : (xs : List ℕ) (k x : ℕ) → slice_get xs k ≡ Some x → (k < length xs) × (get_or xs k 0 ≡ x)
found_at [] k x found = absurd (cc)
found_at (y ∷ xs) zero x found = (omega arith, cc)
found_at (y ∷ xs) (suc k) x found = let more = found_at xs k x found in (omega (arith, more.0), more.1)

any_default : (xs : List ℕ) (k d : ℕ) → k < length xs → get_or xs k d ≡ get_or xs k 0
any_default [] k d low = absurd (omega arith)
any_default (y ∷ xs) zero d low = refl
any_default (y ∷ xs) (suc k) d low = any_default xs k d (omega arith)

-- no mark is above the newest
none_above : (xs : List ℕ) (len : ℕ) → ((i j : ℕ) → i ≤ j → j < length xs → slice_index xs i ≤ slice_index xs j)
    → (length xs - 1 < length xs) × (get_or xs (length xs - 1) 0 ≡ len) → All (λ m. m ≤ len) xs
none_above xs len up found k d low =
    let below = up k (length xs - 1) (omega arith) found.0 in
    let same = any_default xs k d low in
    omega (arith, below, same, found.1)

pub returns-clause-ok : goal.returns-clause-ok
returns-clause-ok c _ _ =
    let s = c.args.self.now in
    let old = s.held in
    let new : Memory = record { held = c.undo_to.new.self; cursors = c.clear.new.self; near = c.args.self.now.near } in
    let marks = old.marks.items in
    let len = c.in-Some.field-0.now in
    let it = c.undo_to.ensures in
    let last : slice_get marks (length marks - 1) ≡ Some len = sym (rw c.deref.ensures.value at c.in-Some.ensures.value) in
    let found = found_at marks (length marks - 1) len last in
    let all : All (λ m. m ≤ len) marks = none_above marks len old.rising found in
    let back : shown (current new) ≡ newest (memory_view s) =
    ap shown it.now ∙ sym (newest_mark (λ m. shown (moment old m)) marks (snapshot (memory_view s)) (omega (arith, found.0)) ∙ ap (λ m. shown (moment old m)) found.1) in
    let same : marks_of new ≡ marks_of s =
    ap (map (λ m. shown (moment new.held m))) it.marks ∙ map_same (λ m. shown (moment new.held m)) (λ m. shown (moment old m)) len marks all (λ m low. ap shown (it.past m low)) in
    record {
      was_open = refl;
      is = (λ i. view_of (current new) (it.past 0 (omega arith) i) (same i) (memory_view new).cursors)
          ∙ (λ i. record (memory_view s) { trees = (back i).trees; shape = (back i).shape; reals = (back i).reals; cursors = (memory_view new).cursors });
    }
