-- SPDX-License-Identifier: Apache-2.0
-- Lists by their places.
use Rattle.mmemory.proofs.MemoryWords.{◌≡◌, ◌≢◌, ℕ, zero, suc, ◌<◌, ◌≤◌, List, [], ◌∷◌, length, map, drop, get_or, refl, sym, ap, arith}

pub drop_past : {A : Type 0} (n : ℕ) (xs : List A) → length xs ≤ n → drop n xs ≡ []
drop_past zero [] h = refl
drop_past (suc n) [] h = refl
drop_past zero (x ∷ xs) h = absurd (omega arith)
drop_past (suc n) (x ∷ xs) h = drop_past n xs (omega arith)

-- what a list shows at a place
pub shown_at : {T X : Type 0} (f : T → X) (parts : List T) (k : ℕ) (d : X) (it : T) → k < length parts → it ≡ get_or parts k it → get_or (map f parts) k d ≡ f it
shown_at f [] k d it within is = absurd (omega arith)
shown_at f (x ∷ parts) zero d it within is = ap f (sym is)
shown_at f (x ∷ parts) (suc k) d it within is = shown_at f parts k d it (omega arith) is

pub not_shown : {T X : Type 0} (f : T → X) (parts : List T) (k : ℕ) (d : X) → length parts ≤ k → get_or (map f parts) k d ≡ d
not_shown f [] k d past = refl
not_shown f (x ∷ parts) zero d past = absurd (omega arith)
not_shown f (x ∷ parts) (suc k) d past = not_shown f parts k d (omega arith)

-- the first of some, whatever would stand there if there were none
pub first_of : {A : Type 0} (xs : List A) (x d : A) → xs ≢ [] → x ≡ get_or xs 0 x → x ≡ get_or xs 0 d
first_of [] x d some is = absurd (some refl)
first_of (y ∷ xs) x d some is = is
