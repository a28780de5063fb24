-- SPDX-License-Identifier: Apache-2.0
-- A change of chunks: its rows, and what takes it back.
use Rattle.mmemory.proofs.MemoryWords.{set-get_or, set-set, ◌≡◌, ℕ, zero, suc, ◌+◌, ◌<◌, ◌≤◌, List, [], ◌∷◌, ◌++◌, length, take, drop, set, get_or, refl, sym}
use Rattle.mmemory.proofs.MemoryWords.{ap, ◌∙◌, arith, add-one, append_assoc, insert, remove, lt-ltb, le-leb, append-nil, length-insert, length-remove}
use Rattle.mmemory.proofs.MemoryWords.{flat_map-append, Row, joined, put_in, taken, over, joined_at}

-- ---- one row

pub put_fits : (at : ℕ) (row : Row) (rows : List Row) → at ≤ length rows → length rows < 128 → put_in at row rows ≡ insert rows at row
put_fits at row rows within room = rw (le-leb at (length rows) within, lt-ltb (length rows) 128 room)

taken_fits : (at : ℕ) (rows : List Row) → at < length rows → 1 < length rows → taken at rows ≡ remove rows at
taken_fits at rows within more = rw (lt-ltb at (length rows) within, lt-ltb 1 (length rows) more)

pub remove_inserted : {A : Type 0} (at : ℕ) (row : A) (rows : List A) → at ≤ length rows → remove (insert rows at row) at ≡ rows
remove_inserted zero row rows within = refl
remove_inserted (suc k) row [] within = absurd (omega arith)
remove_inserted (suc k) row (x ∷ rows) within = ap (λ l. x ∷ l) (remove_inserted k row rows (omega arith))

pub insert_removed : {A : Type 0} (at : ℕ) (rows : List A) (d : A) → at < length rows → insert (remove rows at) at (get_or rows at d) ≡ rows
insert_removed at [] d within = absurd (omega arith)
insert_removed zero (x ∷ rows) d within = refl
insert_removed (suc k) (x ∷ rows) d within = ap (λ l. x ∷ l) (insert_removed k rows d (omega arith))

pub set_back : {A : Type 0} (at : ℕ) (row : A) (rows : List A) (d : A) → set (set rows at row) at (get_or rows at d) ≡ rows
set_back at row rows d = set-set rows at row (get_or rows at d) ∙ set-get_or rows at d

pub set_rows : {A : Type 0} (at : ℕ) (row : A) (rows : List A) → at < length rows → set rows at row ≡ take at rows ++ row ∷ drop (at + 1) rows
set_rows at row [] within = absurd (omega arith)
set_rows zero row (x ∷ rows) within = refl
set_rows (suc k) row (x ∷ rows) within =
    let rest : set rows k row ≡ take k rows ++ row ∷ drop (k + 1) rows = set_rows k row rows (omega arith) in
    rw (add-one (suc k)) (ap (λ l. x ∷ l) (rw (add-one k) at rest))

pub put_taken : (at : ℕ) (row : Row) (rows : List Row) → at ≤ length rows → length rows < 128 → 0 < length rows → taken at (put_in at row rows) ≡ rows
put_taken at row rows within room some =
    let len = length-insert rows at row within in
    rw (put_fits at row rows within room) (taken_fits at (insert rows at row) (omega arith) (omega arith) ∙ remove_inserted at row rows within)

pub taken_put : (at : ℕ) (rows : List Row) → at < length rows → length rows ≤ 128 → put_in at (get_or rows at []) (remove rows at) ≡ rows
taken_put at rows within room =
    let len = length-remove rows at within in
    put_fits at (get_or rows at []) (remove rows at) (omega arith) (omega arith) ∙ insert_removed at rows [] within

-- ---- one chunk

pub over_back : (f g : List Row → List Row) (n : List (List Row)) (k : ℕ) → f (g (get_or n k [])) ≡ get_or n k [] → over k f (over k g n) ≡ n
over_back f g [] k h = refl
over_back f g (x ∷ n) zero h = ap (λ r. r ∷ n) h
over_back f g (x ∷ n) (suc k) h = ap (λ l. x ∷ l) (over_back f g n k h)

pub over_rows : (f : List Row → List Row) (n : List (List Row)) (k : ℕ) → k < length n → joined (over k f n) ≡ joined (take k n) ++ (f (get_or n k []) ++ joined (drop (k + 1) n))
over_rows f [] k within = absurd (omega arith)
over_rows f (x ∷ n) zero within = refl
over_rows f (x ∷ n) (suc k) within =
    let rest : joined (over k f n) ≡ joined (take k n) ++ (f (get_or n k []) ++ joined (drop (k + 1) n)) = over_rows f n k (omega arith) in
    rw (add-one (suc k)) (ap (λ l. x ++ l) (rw (add-one k) at rest) ∙ sym (append_assoc x (joined (take k n)) (f (get_or n k []) ++ joined (drop (suc k) n))))

pub put_rows : (at : ℕ) (row : Row) (rows front back : List Row) → front ++ (insert rows at row ++ back) ≡ (front ++ take at rows) ++ row ∷ (drop at rows ++ back)
put_rows at row rows front back = seam front (take at rows) (row ∷ drop at rows) back
  where
    seam : (a b c d : List Row) → a ++ ((b ++ c) ++ d) ≡ (a ++ b) ++ (c ++ d)
    seam a b c d = simp append_assoc

pub cut_rows : (at : ℕ) (rows front back : List Row) → front ++ (remove rows at ++ back) ≡ (front ++ take at rows) ++ (drop (at + 1) rows ++ back)
cut_rows at rows front back = rw (add-one at) (seam front (take at rows) (drop (suc at) rows) back)
  where
    seam : (a b c d : List Row) → a ++ ((b ++ c) ++ d) ≡ (a ++ b) ++ (c ++ d)
    seam a b c d = simp append_assoc

pub changed_rows : (at : ℕ) (row : Row) (rows front back : List Row) → at < length rows → front ++ (set rows at row ++ back) ≡ (front ++ take at rows) ++ row ∷ (drop (at + 1) rows ++ back)
changed_rows at row rows front back within = rw (set_rows at row rows within) (seam front (take at rows) (row ∷ drop (at + 1) rows) back)
  where
    seam : (a b c d : List Row) → a ++ ((b ++ c) ++ d) ≡ (a ++ b) ++ (c ++ d)
    seam a b c d = simp append_assoc

pub inserted_rows : (n : List (List Row)) (k : ℕ) (row : Row) → joined (insert n k (row ∷ [])) ≡ joined (take k n) ++ row ∷ joined (drop k n)
inserted_rows n k row = flat_map-append (λ r. r) (take k n) ((row ∷ []) ∷ drop k n)

-- a chunk that goes, of one row
pub gone_rows : (n : List (List Row)) (k row : ℕ) → row ≡ 0 → length (get_or n k []) ≡ 1 → joined (remove n k) ≡ (joined (take k n) ++ take row (get_or n k [])) ++ (drop (row + 1) (get_or n k []) ++ joined (drop (k + 1) n))
gone_rows n k row is one =
    flat_map-append (λ r. r) (take k n) (drop (suc k) n)
    ∙ rw (is, add-one k) (ap (λ l. l ++ joined (drop (suc k) n)) (sym (append-nil (joined (take k n)))) ∙ ap (λ l. (joined (take k n) ++ []) ++ (l ++ joined (drop (suc k) n))) (sym (none (get_or n k []) one)))
  where
    none : (rows : List Row) → length rows ≡ 1 → drop 1 rows ≡ []
    none [] h = refl
    none (x ∷ []) h = refl
    none (x ∷ y ∷ rows) h = absurd (omega arith)

-- ---- a chunk that is split in two

module _ (head tail : List Row) where
  abbrev pub halves : List (List Row) → ℕ → List (List Row)
  halves n k = insert (set n k head) (suc k) tail

  pub first_half : (n : List (List Row)) (k : ℕ) → k < length n → get_or (halves n k) k [] ≡ head
  first_half [] k within = absurd (omega arith)
  first_half (x ∷ n) zero within = refl
  first_half (x ∷ n) (suc k) within = first_half n k (omega arith)

  pub second_half : (n : List (List Row)) (k : ℕ) → k < length n → get_or (halves n k) (suc k) [] ≡ tail
  second_half [] k within = absurd (omega arith)
  second_half (x ∷ n) zero within = refl
  second_half (x ∷ n) (suc k) within = second_half n k (omega arith)

  pub halves_length : (n : List (List Row)) (k : ℕ) → k < length n → length (halves n k) ≡ length n + 1
  halves_length [] k within = absurd (omega arith)
  halves_length (x ∷ n) zero within = omega arith
  halves_length (x ∷ n) (suc k) within = omega (arith, halves_length n k (omega arith))

  one_again : (n : List (List Row)) (k : ℕ) → k < length n → get_or n k [] ≡ head ++ tail → set (remove (halves n k) (suc k)) k (head ++ tail) ≡ n
  one_again [] k within is = absurd (omega arith)
  one_again (x ∷ n) zero within is = ap (λ r. r ∷ n) (sym is)
  one_again (x ∷ n) (suc k) within is = ap (λ l. x ∷ l) (one_again n k (omega arith) is)

  halves_rows : (n : List (List Row)) (k : ℕ) → k < length n → get_or n k [] ≡ head ++ tail → joined (halves n k) ≡ joined n
  halves_rows [] k within is = absurd (omega arith)
  halves_rows (x ∷ n) zero within is = sym (append_assoc head tail (joined n)) ∙ ap (λ r. r ++ joined n) (sym is)
  halves_rows (x ∷ n) (suc k) within is = ap (λ l. x ++ l) (halves_rows n k (omega arith) is)

  pub joined_back : (n : List (List Row)) (k : ℕ) → k < length n → get_or n k [] ≡ head ++ tail → length head + length tail ≤ 128 → joined_at k (insert (set n k head) (k + 1) tail) ≡ n
  joined_back n k within is room =
      let low : suc k < length (halves n k) = omega (arith, halves_length n k within) in
      rw (add-one k) (rw (lt-ltb (suc k) (length (halves n k)) low, first_half n k within, second_half n k within, le-leb (length head + length tail) 128 room) (one_again n k within is))

  pub joined_rows : (n : List (List Row)) (k : ℕ) → k < length n → get_or n k [] ≡ head ++ tail → joined (insert (set n k head) (k + 1) tail) ≡ joined n
  joined_rows n k within is = rw (add-one k) (halves_rows n k within is)
