-- SPDX-License-Identifier: Apache-2.0
-- Subscripts that are numbers.
use Rattle.mkey.proofs.KeyWords.{ℕ, ◌≡◌, ◌∷◌, List, Some, refl, ap, arith, units, units_number, number_bytes, subscript_by, subscript_bytes, canonical_value}
use Rattle.mkey.proofs.KeyWords.{number_text, text_ascii, IsFront, BeginsWithNumber, IsSub}
use Rattle.mnum.specs.declared.num.Num.{Num}
use Rattle.mvalue.proofs.NumberLengths.{text_some, text_short}
use Rattle.mkey.proofs.SubscriptFronts.{text_of_number, number_begins}

pub number_is_sub : (n : Num) → IsSub (number_text (units n))
number_is_sub n =
    let short = text_short n in
    (record { some = text_some n; few = omega (arith, short) }, text_ascii n)

number_canonical : (n : Num) → canonical_value 18 (number_text (units n)) ≡ Some (units n)
number_canonical n = text_of_number 18 (number_text (units n)) (units n) (units_number n) refl

pub bytes_of_a_number : (n : Num) → subscript_bytes 18 (number_text (units n)) ≡ 1 ∷ number_bytes (units n)
bytes_of_a_number n = ap (subscript_by (number_text (units n))) (number_canonical n)

pub number_front : (n : Num) (rest : List ℕ) → BeginsWithNumber (units n) rest → IsFront (1 ∷ rest) (subscript_bytes 18 (number_text (units n))) 17
number_front n rest front = number_begins 18 rest (units n) (number_text (units n)) front (number_canonical n)
