-- SPDX-License-Identifier: Apache-2.0
-- A number that an option's text was read as.
use Rattle.std.proofs.Common.{◌≡◌, ℕ, List, Option, Some, None, Result, Ok, refl, sym}
use Rattle.std.specs.Str.Parse.{ParsesUnsigned, digits_value, without_leading_plus}
use Rattle.clap.specs.Matches.{ReadsOne}

-- if a number was read, there was a text, and the number is what its digits are
pub number_read : {E : Type 0} (k : ℕ) (G : List ℕ → Result ℕ E → Type 0) (n : ℕ) (o : Option (List ℕ))
    → ((t : List ℕ) (x : Result ℕ E) → G t x → ParsesUnsigned k 10 t x)
    → (o ≡ None → Some n ≡ None) → ((t : List ℕ) → o ≡ Some t → ReadsOne G t (Some n))
    → (t : List ℕ) × (o ≡ Some t) × (digits_value 10 (without_leading_plus t) ≡ n)
number_read k G n None only none value =
    let bad = none refl in
    cc
number_read k G n (Some t) only none value = (t, refl, sym (only t (Ok n) (value t refl)).1)
