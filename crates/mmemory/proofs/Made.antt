-- SPDX-License-Identifier: Apache-2.0
-- What each change makes of a tree.
use Rattle.mmemory.proofs.MemoryWords.{◌≡◌, ℕ, zero, suc, ◌+◌, ◌<◌, ◌≤◌, min, List, [], ◌∷◌, ◌++◌, length, take, drop, set, get_or, refl, sym, ap, subst, ◌∙◌}
use Rattle.mmemory.proofs.MemoryWords.{arith, add-one, insert, remove, map-set, length-map, length-append, map-append, take-map, drop-map, take_min, drop_min}
use Rattle.mmemory.proofs.MemoryWords.{lt-ltb, le-leb, length-remove, Row, Bare, Chunk, Tree, DropRow, PutRow, SetRow, DropChunk, PutChunk, Join, joined}
use Rattle.mmemory.proofs.MemoryWords.{put_in}
use Rattle.mmemory.proofs.MemoryWords.{taken, over, joined_at, front, back, Plain, plain, bare_rows, chunk_rows, nest, tree_nest, with_chunks, plain_rows}
use Rattle.mmemory.proofs.MemoryWords.{Makes, HalvedAt}
use Rattle.mmemory.specs.declared.step.Step.{Step}
use Rattle.mmemory.proofs.Shown.{shown_at}
use Rattle.mmemory.proofs.Some.{some_length}
use Rattle.mmemory.proofs.Backs.{put_fits, remove_inserted, insert_removed, set_back, put_taken, taken_put, over_back, over_rows, put_rows, cut_rows}
use Rattle.mmemory.proofs.Backs.{changed_rows, inserted_rows, gone_rows, joined_back, joined_rows}

-- ---- from chunks to their rows

pub changed : (f : List Row → List Row) (chunks : List Chunk) (k : ℕ) (was new : Chunk) → k < length chunks → was ≡ get_or chunks k was
    → chunk_rows new ≡ f (chunk_rows was)
    → nest (set chunks k new) ≡ over k f (nest chunks)
changed f chunks k was new within is made =
    map-set chunk_rows chunks k new ∙ ap (set (nest chunks) k) (made ∙ ap f (sym (shown_at chunk_rows chunks k [] was within is)))

pub nest_inserted : (chunks : List Chunk) (k : ℕ) (it : Chunk) → nest (insert chunks k it) ≡ insert (nest chunks) k (chunk_rows it)
nest_inserted chunks k it =
    map-append chunk_rows (take k chunks) (it ∷ drop k chunks) ∙
    (λ i. sym (take-map chunk_rows k chunks) i ++ chunk_rows it ∷ sym (drop-map chunk_rows k chunks) i)

pub nest_removed : (chunks : List Chunk) (k : ℕ) → nest (remove chunks k) ≡ remove (nest chunks) k
nest_removed chunks k =
    map-append chunk_rows (take k chunks) (drop (suc k) chunks) ∙ (λ i. sym (take-map chunk_rows k chunks) i ++ sym (drop-map chunk_rows (suc k) chunks) i)

pub insert_min : (n : List (List Row)) (k : ℕ) (rows : List Row) → insert n (min k (length n)) rows ≡ insert n k rows
insert_min n k rows = λ i. take_min k n i ++ rows ∷ drop_min k n i

pub some_at : (chunks : List Chunk) (k : ℕ) → k < length (nest chunks) → 0 < length (get_or (nest chunks) k [])
some_at [] k within = absurd (omega arith)
some_at (c ∷ chunks) zero within = some_length (chunk_rows c) c.some
some_at (c ∷ chunks) (suc k) within = some_at chunks k (omega arith)

pub short_at : (chunks : List Chunk) (k : ℕ) → length (get_or (nest chunks) k []) ≤ 128
short_at [] k = omega arith
short_at (c ∷ chunks) zero = c.fits.0
short_at (c ∷ chunks) (suc k) = short_at chunks k

-- ---- the changes

module _ (p : Plain) (k at : ℕ) where
  abbrev pub rows : List Row
  rows = get_or p.chunks k []

  abbrev pub before_it : List Row
  before_it = joined (take k p.chunks)

  abbrev pub after_it : List Row
  after_it = joined (drop (k + 1) p.chunks)

  pub made_put : (row : Row) → k < length p.chunks → at ≤ length rows → length rows < 128 → 0 < length rows
      → Makes p (with_chunks p (over k (put_in at row) p.chunks)) (DropRow k at) (front p.chunks k at ++ row ∷ back p.chunks k at)
  made_put row within low room some = record {
    back = λ i. with_chunks p (over_back (taken at) (put_in at row) p.chunks k (put_taken at row rows low room some) i);
    heading_is = refl;
    rows_are =
        over_rows (put_in at row) p.chunks k within ∙ ap (λ r. before_it ++ (r ++ after_it))
        (put_fits at row rows low room) ∙ put_rows at row rows before_it after_it;
  }

  pub made_set : (row : Row) → k < length p.chunks → at < length rows
      → Makes p (with_chunks p (over k (λ r. set r at row) p.chunks)) (SetRow k at (get_or rows at [])) (front p.chunks k at ++ row ∷ back p.chunks k (at + 1))
  made_set row within low = record {
    back = λ i. with_chunks p (over_back (λ r. set r at (get_or rows at [])) (λ r. set r at row) p.chunks k (set_back at row rows []) i);
    heading_is = refl;
    rows_are = over_rows (λ r. set r at row) p.chunks k within ∙ changed_rows at row rows before_it after_it low;
  }

  pub made_cut : k < length p.chunks → at < length rows → length rows ≤ 128
      → Makes p (with_chunks p (over k (λ r. remove r at) p.chunks)) (PutRow k at (get_or rows at [])) (front p.chunks k at ++ back p.chunks k (at + 1))
  made_cut within low room = record {
    back = λ i. with_chunks p (over_back (put_in at (get_or rows at [])) (λ r. remove r at) p.chunks k (taken_put at rows low room) i);
    heading_is = refl;
    rows_are = over_rows (λ r. remove r at) p.chunks k within ∙ cut_rows at rows before_it after_it;
  }

  pub made_none : (it : Bare) → k < length p.chunks → at ≡ 0 → length rows ≡ 1 → bare_rows it ≡ rows
      → Makes p (record { shape = p.shape; reals = p.reals; described = p.described; chunks = remove p.chunks k; spare = p.spare + 1 }) (PutChunk k it) (front p.chunks k at ++ back p.chunks k (at + 1))
  made_none it within first one is = record {
    back = rw (add-one p.spare) (λ i. with_chunks p ((ap (insert (remove p.chunks k) k) is ∙ insert_removed k p.chunks [] within) i));
    heading_is = refl;
    rows_are = gone_rows p.chunks k at first one;
  }

module _ (p : Plain) (k : ℕ) where
  pub made_add : (row : Row) → k ≤ length p.chunks
      → Makes p (with_chunks p (insert p.chunks k (row ∷ []))) (DropChunk k) (joined (take k p.chunks) ++ row ∷ joined (drop k p.chunks))
  made_add row low = record {
    back = λ i. with_chunks p (remove_inserted k (row ∷ []) p.chunks low i);
    heading_is = refl;
    rows_are = inserted_rows p.chunks k row;
  }

  pub made_two : (head tail : List Row) → k < length p.chunks → get_or p.chunks k [] ≡ head ++ tail → length head + length tail ≤ 128
      → Makes p (with_chunks p (insert (set p.chunks k head) (k + 1) tail)) (Join k) (plain_rows p)
  made_two head tail within is room = record {
    back = λ i. with_chunks p (joined_back head tail p.chunks k within is room i);
    heading_is = refl;
    rows_are = joined_rows head tail p.chunks k within is;
  }

pub made_halves : (p : Plain) (k : ℕ) (new : List (List Row)) (two : HalvedAt p.chunks new k) → k < length p.chunks → length two.head + length two.tail ≤ 128
    → Makes p (with_chunks p new) (Join k) (plain_rows p)
made_halves p k new two low room =
    subst (λ chunks. Makes p (with_chunks p chunks) (Join k) (plain_rows p)) (sym two.are) (made_two p k two.head two.tail low two.both room)

-- ---- a tree of which a chunk was changed

module _ (t : Tree) (k : ℕ) (was new : Chunk) (within : k < length (tree_nest t)) (at : was ≡ get_or t.chunks.items k was) where
  low : k < length t.chunks.items
  low = omega (arith, within, length-map t.chunks.items chunk_rows)

  pub rows_were : (i : ℕ) → get_or (get_or (tree_nest t) k []) i [] ≡ get_or (chunk_rows was) i []
  rows_were i = ap (λ r. get_or r i []) (shown_at chunk_rows t.chunks.items k [] was low at)

  pub made_over : (f : List Row → List Row) (step : Step) (rows : List Row) → chunk_rows new ≡ f (chunk_rows was)
      → Makes (plain t) (with_chunks (plain t) (over k f (tree_nest t))) step rows → Makes (plain t) (with_chunks (plain t) (nest (set t.chunks.items k new))) step rows
  made_over f step rows is = subst (λ chunks. Makes (plain t) (with_chunks (plain t) chunks) step rows) (sym (changed f t.chunks.items k was new low at is))

-- ---- a chunk that takes the rows of the next one

get_removed : {A : Type 0} (xs : List A) (k : ℕ) (d : A) → get_or (remove xs (suc k)) k d ≡ get_or xs k d
get_removed [] k d = refl
get_removed (x ∷ xs) zero d = refl
get_removed (x ∷ xs) (suc k) d = get_removed xs k d

pub join_made : (chunks : List Chunk) (k : ℕ) (first second was new tail : Chunk) (rest : List Chunk) → k + 1 < length chunks → first ≡ get_or chunks k first
    → second ≡ get_or chunks (k + 1) second
    → length (chunk_rows first) + length (chunk_rows second) ≤ 128 → rest ≡ remove chunks (k + 1) → tail ≡ get_or chunks (k + 1) tail → was ≡ get_or rest k was → chunk_rows new ≡ chunk_rows was ++ chunk_rows tail
    → nest (set rest k new) ≡ joined_at k (nest chunks)
join_made chunks k first second was new tail rest low f s room rest_is t w rows_are =
    let n = nest chunks in
    let within : k + 1 < length n = rw length-map low in
    let head : get_or n k [] ≡ chunk_rows first = shown_at chunk_rows chunks k [] first (omega arith) f in
    let next : get_or n (k + 1) [] ≡ chunk_rows second = shown_at chunk_rows chunks (k + 1) [] second low s in
    let other : get_or n (k + 1) [] ≡ chunk_rows tail = shown_at chunk_rows chunks (k + 1) [] tail low t in
    let fits : length (get_or n k []) + length (get_or n (k + 1) []) ≤ 128 = rw (head, next) room in
    let left : nest rest ≡ remove n (k + 1) = ap nest rest_is ∙ nest_removed chunks (k + 1) in
    let short : k < length rest = rw rest_is (omega (arith, length-remove chunks (k + 1) low)) in
    let here : get_or n k [] ≡ chunk_rows was =
    sym (get_removed n k []) ∙ ap (λ j. get_or (remove n j) k []) (sym (add-one k)) ∙ ap (λ l. get_or l k []) (sym left) ∙ shown_at chunk_rows rest k [] was short w in
    let rows : chunk_rows new ≡ get_or n k [] ++ get_or n (k + 1) [] = rows_are ∙ (λ i. sym here i ++ sym other i) in
    map-set chunk_rows rest k new ∙ (λ i. set (left i) k (rows i)) ∙ sym (tested within fits)
  where
    tested : k + 1 < length (nest chunks) → length (get_or (nest chunks) k []) + length (get_or (nest chunks) (k + 1) []) ≤ 128
        → joined_at k (nest chunks) ≡ set (remove (nest chunks) (k + 1)) k (get_or (nest chunks) k [] ++ get_or (nest chunks) (k + 1) [])
    tested a b = rw (lt-ltb (k + 1) (length (nest chunks)) a, le-leb _ 128 b)

-- ---- a chunk that is split in two

pub halves_made : (chunks kept made : List Chunk) (k : ℕ) (was new tail : Chunk) → kept ≡ chunks → k < length chunks → was ≡ get_or kept k was
    → chunk_rows was ≡ chunk_rows new ++ chunk_rows tail
    → made ≡ insert (set kept k new) (k + 1) tail → HalvedAt (nest chunks) (nest made) k
halves_made chunks kept made k was new tail same low w both is =
    let low2 : k < length kept = rw same low in
    record {
      head = chunk_rows new;
      tail = chunk_rows tail;
      both = ap (λ cs. get_or (nest cs) k []) (sym same) ∙ shown_at chunk_rows kept k [] was low2 w ∙ both;
      are =
          ap nest is ∙ nest_inserted (set kept k new) (k + 1) tail ∙ ap (λ n. insert n (k + 1) (chunk_rows tail))
          (map-set chunk_rows kept k new ∙ ap (λ cs. set (nest cs) k (chunk_rows new)) same);
      parts = (some_length (chunk_rows new) new.some, some_length (chunk_rows tail) tail.some);
    }

pub halves_fit : (chunks : List Chunk) (k : ℕ) (head tail : List Row) → get_or (nest chunks) k [] ≡ head ++ tail → length head + length tail ≤ 128
halves_fit chunks k head tail is = omega (arith, short_at chunks k, ap length is, length-append head tail)
