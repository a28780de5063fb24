-- SPDX-License-Identifier: Apache-2.0
-- A search over chunks and rows.
use Rattle.mmemory.proofs.MemoryWords.{◌≡◌, ℕ, zero, suc, ◌+◌, ◌-◌, ◌<◌, ◌≤◌, max, Bool, true, false, List, [], ◌∷◌, ◌++◌, length, take, drop, get_or}
use Rattle.mmemory.proofs.MemoryWords.{refl}
use Rattle.mmemory.proofs.MemoryWords.{sym, ap, ◌∙◌, subst, arith, inl, inr, eq-or-lt_of_le, length-map, Row, all-append, AllByRecursion, Chunk, append_assoc}
use Rattle.mmemory.proofs.MemoryWords.{joined, front, back, chunk_rows, nest, IsEdge, Falls, Splits, slice_get-get_or, take-append-drop}
use Rattle.mmemory.proofs.Shown.{drop_past}
use Rattle.mmemory.proofs.Nests.{around, drop_at}
use Rattle.mmemory.proofs.Splits.{all_right, up_left, up_right, rows_passed, rows_failed, passed_to, failed_on, failed_after, parts_passed, parts_failed}
use Rattle.mmemory.proofs.Splits.{edge_map}
use Rattle.mmemory.proofs.Some.{chunks_some}

-- what is in a chunk of a sorted tree is sorted
pub falls_chunk : (test : Row → Bool) (n : List (List Row)) (k : ℕ) → Falls test (joined n) → Falls test (get_or n k [])
falls_chunk test n k up = up_left _ (get_or n k []) _ (up_right _ (joined (take k n)) _ (subst (Falls test) (around (λ r. r) [] refl n k) up))

pub tree_found : (test : Row → Bool) (chunks : List Chunk) (past row at : ℕ) (rows : List Row) → Falls test (joined (nest chunks)) → past ≤ length chunks
    → IsEdge (λ c. test (get_or (chunk_rows c) 0 [])) chunks past → at ≡ max past 1 - 1 → rows ≡ get_or (nest chunks) at [] → row ≤ length rows → IsEdge test rows row
    → Splits test (front (nest chunks) at row) (back (nest chunks) at row)
tree_found test chunks past row at rows up within edge at_is are inside last =
    let n = nest chunks in
    let here = get_or n at [] in
    let within2 : past ≤ length n = rw length-map within in
    let inside2 : row ≤ length here = rw (← are) inside in
    let edge2 = edge_map chunk_rows (λ x. test (get_or x 0 [])) chunks past edge in
    let last2 : IsEdge test here row = rw are at last in
    let up2 : Falls test here = falls_chunk test n at up in
    record {
      passed =
          all-append _ (joined (take at n)) (take row here) (rw at_is (parts_passed test (λ x. x) [] refl n past up within2 (chunks_some chunks) edge2))
          (rows_passed test here row up2 inside2 last2);
      failed =
          all-append _ (drop row here) (joined (drop (at + 1) n)) (rows_failed test here row up2 inside2 last2)
          (rw at_is (parts_failed test (λ x. x) [] refl n past up within2 (chunks_some chunks) edge2));
    }

first_passed : (test : Row → Bool) (rows : List Row) (row : ℕ) → 0 < row → row ≤ length rows → AllByRecursion (λ r. test r ≡ true) (take row rows)
    → test (get_or rows 0 []) ≡ true
first_passed test [] row some inside h = absurd (omega arith)
first_passed test (x ∷ rows) zero some inside h = absurd (omega arith)
first_passed test (x ∷ rows) (suc k) some inside h = h.0

-- no chunk comes later, or the first row of the next one fails
pub none_later : (test : Row → Bool) (chunks : List Chunk) (k : ℕ) → length chunks ≤ k → AllByRecursion (λ r. test r ≡ false) (joined (drop k (nest chunks)))
none_later test chunks k past = rw (drop_past k (nest chunks) (rw length-map past)) tt

pub fails_later : (test : Row → Bool) (chunks : List Chunk) (k : ℕ) → Falls test (joined (nest chunks)) → k < length chunks
    → test (get_or (get_or (nest chunks) k []) 0 []) ≡ false
    → AllByRecursion (λ r. test r ≡ false) (joined (drop k (nest chunks)))
fails_later test chunks k up low h = failed_on test (λ x. x) [] refl (nest chunks) up (chunks_some chunks) k (rw length-map low) h

-- rows that are tested within one chunk
module _ (test : Row → Bool) (chunks : List Chunk) (k row : ℕ) (up : Falls test (joined (nest chunks))) (low : k < length chunks)
    (inside : row ≤ length (get_or (nest chunks) k [])) (edge : IsEdge test (get_or (nest chunks) k []) row) (first : row ≡ 0 → k ≡ 0)
    (last : row ≡ length (get_or (nest chunks) k []) → AllByRecursion (λ r. test r ≡ false) (joined (drop (k + 1) (nest chunks)))) where
  abbrev n : List (List Row)
  n = nest chunks

  abbrev here : List Row
  here = get_or n k []

  abbrev rest : List Row
  rest = joined (drop (k + 1) n)

  passed : AllByRecursion (λ r. test r ≡ true) (take row here)
  passed = rows_passed test here row (falls_chunk test n k up) inside edge

  earlier : AllByRecursion (λ r. test r ≡ true) (joined (take k n))
  earlier = go row refl
    where
      go : (r : ℕ) → row ≡ r → AllByRecursion (λ r. test r ≡ true) (joined (take k n))
      go zero is = rw (first is) tt
      go (suc r) is = passed_to test (λ x. x) [] refl n up (chunks_some chunks) k (rw length-map low) (first_passed test here row (omega arith) inside passed)

  later : AllByRecursion (λ r. test r ≡ false) rest
  later = elim (eq-or-lt_of_le inside) [
    | inl same ↦ last same
    | inr below ↦
        let x = get_or here row [] in
        let found = slice_get-get_or here row [] below in
        let cut : here ≡ take row here ++ x ∷ drop (row + 1) here = sym (take-append-drop row here) ∙ ap (λ l. take row here ++ l) (drop_at here row x found) in
        let up2 : Falls test (here ++ rest) = up_right _ (joined (take k n)) (here ++ rest) (subst (Falls test) (around (λ r. r) [] refl n k) up) in
        let up3 : Falls test (take row here ++ x ∷ (drop (row + 1) here ++ rest)) =
        subst (Falls test) (ap (λ l. l ++ rest) cut ∙ append_assoc (take row here) (x ∷ drop (row + 1) here) rest) up2 in
        all_right _ (drop (row + 1) here) rest (failed_after test (take row here) x (drop (row + 1) here ++ rest) up3 (edge.first x found)).1
  ]

  pub found_within : Splits test (front n k row) (back n k row)
  found_within = record {
    passed = all-append _ (joined (take k n)) (take row here) earlier passed;
    failed = all-append _ (drop row here) rest (rows_failed test here row (falls_chunk test n k up) inside edge) later;
  }
