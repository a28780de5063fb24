-- SPDX-License-Identifier: Apache-2.0
-- A place of a chunk that is split in two.
use Rattle.mmemory.proofs.MemoryWords.{◌≡◌, ℕ, zero, suc, ◌+◌, ◌-◌, ◌<◌, ◌≤◌, Bool, true, false, leb, cond, List, [], ◌∷◌, ◌++◌, length, take, drop, get_or}
use Rattle.mmemory.proofs.MemoryWords.{refl, sym, ap, subst, ◌∙◌, arith, add-one, append_assoc, leb-true, leb-false, take-append-le, drop-append-le}
use Rattle.mmemory.proofs.MemoryWords.{length-append, take-append-add, drop-append-add, Row, joined, Held, Place, Tree, rows_at, Plain, plain, no_plain}
use Rattle.mmemory.proofs.MemoryWords.{tree_nest, HalvedAt, IsMoved, is_moved, Keeps, nest_at, IsShaped, shape_at, before, after, Writes}
use Rattle.mmemory.proofs.Shown.{shown_at}
use Rattle.mmemory.proofs.Logs.{same_count, same_shape, then_wrote}
use Rattle.mmemory.proofs.Nests.{from_place, up_to_place}
use Rattle.mmemory.proofs.Backs.{halves, first_half, second_half}

module _ (head tail : List Row) where
  halves_before : (n : List (List Row)) (k : ℕ) → k < length n → take k (halves head tail n k) ≡ take k n
  halves_before [] k within = absurd (omega arith)
  halves_before (x ∷ n) zero within = refl
  halves_before (x ∷ n) (suc k) within = ap (λ l. x ∷ l) (halves_before n k (omega arith))

  halves_behind : (n : List (List Row)) (k : ℕ) → k < length n → drop (suc (suc k)) (halves head tail n k) ≡ drop (suc k) n
  halves_behind [] k within = absurd (omega arith)
  halves_behind (x ∷ n) zero within = refl
  halves_behind (x ∷ n) (suc k) within = halves_behind n k (omega arith)

module _ (old new : List (List Row)) (k row : ℕ) (two : HalvedAt old new k) (low : k < length old) (within : row ≤ length (get_or old k [])) where
  now_is : new ≡ halves two.head two.tail old k
  now_is = rw (← add-one k) two.are

  pub head_is : get_or new k [] ≡ two.head
  head_is = ap (λ n. get_or n k []) now_is ∙ first_half two.head two.tail old k low

  tail_is : get_or new (k + 1) [] ≡ two.tail
  tail_is = ap (λ n. get_or n (k + 1) []) now_is ∙ rw (add-one k) (second_half two.head two.tail old k low)

  before_is : joined (take k new) ≡ joined (take k old)
  before_is = ap (λ n. joined (take k n)) now_is ∙ ap joined (halves_before two.head two.tail old k low)

  behind_is : joined (drop (k + 1 + 1) new) ≡ joined (drop (k + 1) old)
  behind_is = ap (λ n. joined (drop (k + 1 + 1) n)) now_is ∙ rw (add-one (k + 1), add-one k) (ap joined (halves_behind two.head two.tail old k low))

  in_head : row ≤ length two.head → IsMoved old new k row (k, row)
  in_head less = record {
    front_is = (λ i. before_is i ++ take row (head_is i)) ∙ ap (λ r. joined (take k old) ++ r) (sym (take-append-le row two.head two.tail less) ∙ ap (take row) (sym two.both));
    back_is =
        (λ i. drop row (head_is i) ++ (from_place (λ r. r) [] refl new (k + 1) ∙ (λ j. tail_is j ++ behind_is j)) i)
        ∙ sym (append_assoc (drop row two.head) two.tail (joined (drop (k + 1) old)))
        ∙ ap (λ r. r ++ joined (drop (k + 1) old)) (sym (drop-append-le row two.head two.tail less) ∙ ap (drop row) (sym two.both));
    inside = rw head_is less;
  }

  in_tail : (left : ℕ) → row ≡ length two.head + left → IsMoved old new k row (k + 1, left)
  in_tail left is = record {
    front_is =
        (λ i. (up_to_place (λ r. r) [] refl new k ∙ (λ j. before_is j ++ head_is j)) i ++ take left (tail_is i))
        ∙ append_assoc (joined (take k old)) two.head (take left two.tail)
        ∙ ap (λ r. joined (take k old) ++ r) (sym (take-append-add two.head two.tail left) ∙ (λ i. take (sym is i) (sym two.both i)));
    back_is = (λ i. drop left (tail_is i) ++ behind_is i) ∙ ap (λ r. r ++ joined (drop (k + 1) old)) (sym (drop-append-add two.head two.tail left) ∙ (λ i. drop (sym is i) (sym two.both i)));
    inside = rw tail_is (omega (arith, ap length two.both, length-append two.head two.tail));
  }

  pub place_moved : (at : ℕ × ℕ) → at ≡ is_moved k row (length two.head) → IsMoved old new k row at
  place_moved at is = subst (IsMoved old new k row) (sym is) (go (leb row (length two.head)) refl)
    where
      go : (b : Bool) → leb row (length two.head) ≡ b → IsMoved old new k row (cond b (k, row) (k + 1, row - length two.head))
      go true e = in_head (leb-true row (length two.head) e)
      go false e = in_tail (row - length two.head) (let more : length two.head < row = leb-false row (length two.head) e in omega arith)

-- the rows around a place of a tree of which a chunk was split in two
pub moved_at : (old new : Held) (t : ℕ) (p q : Place) (found : Tree) (rows : List Row) → Keeps old new → HalvedAt (nest_at old t) (nest_at new t) p.chunk → t < length old.trees.items
    → p.chunk < length (nest_at old t) → p.row ≤ length (rows_at (nest_at old t) p) → found ≡ get_or new.trees.items t found → rows ≡ rows_at (tree_nest found) p
    → (q.chunk, q.row) ≡ is_moved p.chunk p.row (length rows) → IsMoved (nest_at old t) (nest_at new t) p.chunk p.row (q.chunk, q.row)
moved_at old new t p q found rows keeps two within low small is are at =
    let there : t < length new.trees.items = omega (arith, same_count old new keeps.headings_are, within) in
    let here : nest_at new t ≡ tree_nest found = ap (λ (it : Plain). it.chunks) (shown_at plain new.trees.items t no_plain found there is) in
    let head : length rows ≡ length two.head = ap length (are ∙ ap (λ n. get_or n p.chunk []) (sym here) ∙ head_is (nest_at old t) (nest_at new t) p.chunk p.row two low small) in
    place_moved (nest_at old t) (nest_at new t) p.chunk p.row two low small _ (at ∙ ap (is_moved p.chunk p.row) head)

-- a row that goes in at such a place
module _ (old mid : Held) (t : ℕ) (p q : Place) (row : Row) (kept : Keeps old mid) (m : IsMoved (nest_at old t) (nest_at mid t) p.chunk p.row (q.chunk, q.row)) where
  pub fits_moved : IsShaped (shape_at old t) (before (nest_at old t) p ++ row ∷ after (nest_at old t) p) → IsShaped (shape_at mid t) (before (nest_at mid t) q ++ row ∷ after (nest_at mid t) q)
  fits_moved shaped =
      subst (λ s. IsShaped s (before (nest_at mid t) q ++ row ∷ after (nest_at mid t) q)) (sym (same_shape old mid kept.headings_are t))
      (subst (IsShaped (shape_at old t)) (λ i. sym m.front_is i ++ row ∷ sym m.back_is i) shaped)

  pub wrote_moved : (new : Held) → Writes mid new t (before (nest_at mid t) q ++ row ∷ after (nest_at mid t) q) → Writes old new t (before (nest_at old t) p ++ row ∷ after (nest_at old t) p)
  wrote_moved new w = then_wrote old mid new t _ kept (subst (Writes mid new t) (λ i. m.front_is i ++ row ∷ m.back_is i) w)
