-- SPDX-License-Identifier: Apache-2.0
-- What proofs of several crates need of tests, orders, results and characters, and std does not have.
use Rattle.mspec.proofs.SpecWords.{◌≡◌, ℕ, zero, suc, ◌^◌, ◌<◌, ◌≤◌, Bool, true, false, ◌&&◌, Option, None, Some, List, [], ◌∷◌, length, length-append, refl}
use Rattle.mspec.proofs.SpecWords.{ap, arith, if◌then◌else◌, T, Result, Ok, Err, IsErr, IsErrAnd, is_some, option_map, Ordering, Less, Equal, Greater, nat_cmp}
use Rattle.mspec.proofs.SpecWords.{is_lt, slice_cmp, IsAntisymmetric, nat_cmp-IsAntisymmetric, slice_cmp-IsAntisymmetric, and_from, nat_tests, one-le-pow}
use Rattle.mspec.proofs.SpecWords.{is_name_start, is_name_rest, copied}

-- ---- tests

-- a test, or else its contrary
pub by_test : {A : Type 0} (b : Bool) → (b ≡ true → A) → (b ≡ false → A) → A
by_test true f g = f refl
by_test false f g = g refl

pub all_true : (a b c : Bool) → a ≡ true → b ≡ true → c ≡ true → (a && (b && c)) ≡ true
all_true a b c e f g = and_from a (b && c) e (and_from b c f g)

pub from_T : (b : Bool) → T b → b ≡ true
from_T true h = refl
from_T false h = absurd h

-- what is there only if a test fails
pub unopposed : {A : Type 0} (b : Bool) (o : Option A) (x : A) → (if b then None else o) ≡ Some x → o ≡ Some x
unopposed true o x e = absurd (cc)
unopposed false o x e = e

-- ---- orders

pub less : (o : Ordering) → is_lt o ≡ true → o ≡ Less
less Less e = refl
less Equal e = absurd (cc)
less Greater e = absurd (cc)

-- texts that compare as equal are one
pub texts_exact : IsAntisymmetric (slice_cmp nat_cmp)
texts_exact = slice_cmp-IsAntisymmetric nat_cmp-IsAntisymmetric

-- ---- results

-- the result of a `?` that returns
pub residual_is : {X E : Type 0} (r : Result X E) (e : E) → IsErr r × IsErrAnd r (λ x. x ≡ e) → r ≡ Err e
residual_is (Ok x) e h = let no = h.0 in cc
residual_is (Err x) e h = ap Err h.1

pub some_map : {A B : Type 0} (f : A → B) (o : Option A) → is_some o ≡ is_some (option_map f o)
some_map f None = refl
some_map f (Some x) = refl

-- ---- characters and bytes

pub start_is_ascii : (c : ℕ) → is_name_start c ≡ true → c < 128
start_is_ascii c is = grind (arith, nat_tests, is)

pub rest_is_ascii : (c : ℕ) → is_name_rest c ≡ true → c < 128
rest_is_ascii c is = grind (arith, nat_tests, is)

pub byte_pos : (k : ℕ) → 0 < 256 ^ k
byte_pos k = one-le-pow k 256 (omega arith)

-- a string that is not empty has no more copies than they have characters
pub copies_fit : (n c : ℕ) (string : List ℕ) → n ≤ length (copied n (c ∷ string))
copies_fit zero c string = omega arith
copies_fit (suc n) c string = rw length-append (omega (arith, copies_fit n c string))

pub nothing_copied : (n : ℕ) → copied n [] ≡ []
nothing_copied zero = refl
nothing_copied (suc n) = nothing_copied n
