-- SPDX-License-Identifier: Apache-2.0
-- The row that comes next at a place, and the one that comes before it.
use Rattle.mmemory.proofs.MemoryWords.{◌≡◌, ℕ, zero, suc, ◌+◌, ◌<◌, ◌≤◌, min, List, [], ◌∷◌, length, take, drop, get_or, Option, Some, None, refl, sym, ap, ◌∙◌}
use Rattle.mmemory.proofs.MemoryWords.{arith, IfSome, append-nil, take_min, Row, Place, joined, front, rows_at, before, after}
use Rattle.mmemory.proofs.Shown.{drop_past}
use Rattle.mmemory.proofs.Nests.{up_to_place, take_past}
use Rattle.mmemory.proofs.Some.{AreSome, no_chunk}

-- a place after the rows of its chunk
pub past_after : (n : List (List Row)) (p : Place) → length (rows_at n p) ≤ p.row → after n p ≡ joined (drop (p.chunk + 1) n)
past_after n p past = rw (drop_past p.row (rows_at n p) past) refl

-- where no row stands in a chunk, and none begins the next, nothing follows
pub nothing_after : (n : List (List Row)) (p : Place) → length (rows_at n p) ≤ p.row → AreSome n → length (get_or n (p.chunk + 1) []) ≤ 0 → after n p ≡ []
nothing_after n p past some none = past_after n p past ∙ no_chunk n (p.chunk + 1) some none

-- the end of the chunk before that of a place
pub chunk_end : (n : List (List Row)) (p : Place) (at row : ℕ) → take p.row (rows_at n p) ≡ [] → at + 1 ≡ min p.chunk (length n) → row ≡ length (get_or n at []) → front n at row ≡ before n p
chunk_end n p at row none is whole =
    let rows = get_or n at [] in
    rw (none, whole, take_past (length rows) rows (omega arith))
    (sym (up_to_place (λ x. x) [] refl n at) ∙ ap (λ k. joined (take k n)) is ∙ ap joined (take_min p.chunk n) ∙ sym (append-nil (joined (take p.chunk n))))

pub within_chunks : (n : List (List Row)) (k : ℕ) → 0 < length (get_or n k []) → k < length n
within_chunks [] k some = absurd (omega arith)
within_chunks (x ∷ n) zero some = omega arith
within_chunks (x ∷ n) (suc k) some = omega (arith, within_chunks n k some)

pub some_weaker : {A : Type 0} {P Q : A → Type 0} (r : Option A) → ((x : A) → P x → Q x) → IfSome r P → IfSome r Q
some_weaker None f h = tt
some_weaker (Some x) f h = f x h
