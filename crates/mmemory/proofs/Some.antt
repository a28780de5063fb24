-- SPDX-License-Identifier: Apache-2.0
-- Each chunk of a tree has a row.
use Rattle.mmemory.proofs.MemoryWords.{◌≡◌, ◌≢◌, ℕ, zero, suc, ◌<◌, ◌≤◌, List, [], ◌∷◌, length, drop, get_or, refl, arith, AllByRecursion, Row, Chunk, joined}
use Rattle.mmemory.proofs.MemoryWords.{nest}

abbrev pub AreSome : List (List Row) → Type 0
AreSome = AllByRecursion (λ rows. rows ≢ [])

pub chunks_some : (chunks : List Chunk) → AreSome (nest chunks)
chunks_some [] = tt
chunks_some (c ∷ chunks) = (c.some, chunks_some chunks)

pub some_length : {A : Type 0} (xs : List A) → xs ≢ [] → 0 < length xs
some_length [] h = absurd (h refl)
some_length (x ∷ xs) h = omega arith

-- where no chunk begins, none follows
pub no_chunk : (n : List (List Row)) (k : ℕ) → AreSome n → length (get_or n k []) ≤ 0 → joined (drop k n) ≡ []
no_chunk [] zero h none = refl
no_chunk [] (suc k) h none = refl
no_chunk (rows ∷ n) zero h none = absurd (omega (arith, some_length rows h.0))
no_chunk (rows ∷ n) (suc k) h none = no_chunk n k h.1 none
