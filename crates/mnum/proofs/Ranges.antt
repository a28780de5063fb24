-- SPDX-License-Identifier: Apache-2.0
-- The range of a number.
use Rattle.mnum.proofs.NumWords.{ℕ, ◌≡◌, ◌*◌, ◌-◌, ◌^◌, ◌<◌, refl, subst, sym, arith, unsigned_abs, abs_signed, IsNumber, units, Num}
use Rattle.mnum.proofs.Sums.{places_below}

-- each value is a number of the language
pub units_number : (n : Num) → IsNumber 18 (units n)
units_number n =
    let size : unsigned_abs (units n) ≡ n.digits * 10 ^ (18 - n.places) = abs_signed n.negative (n.digits * 10 ^ (18 - n.places)) in
    record {
      in_range = subst (λ (x : ℕ). x < 10 ^ 36) (sym size) (places_below n.digits (18 - n.places) (10 ^ (18 - n.places)) n.digits_below (omega arith) refl);
      few_digits = (n.digits, 18 - n.places, n.digits_below, size);
    }
