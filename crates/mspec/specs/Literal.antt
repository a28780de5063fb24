-- SPDX-License-Identifier: Apache-2.0
-- Numeric literals, as the grammar prints them.
--
-- Restates "Numeric literal numlit" of ISO/IEC 11756:1999, with its parts `intlit`, `mant` and `exp`: digits, with a
-- point and digits after them or alone, and an exponent. Nothing is read here: a literal is a tree, and a text.
use Rattle.std.specs.Prelude.{◌≡◌, ◌≢◌, ℕ, ◌+◌, ◌-◌, ◌*◌, ◌^◌, Bool, true, ◌&&◌, nat_le, List, [], ◌∷◌, ◌++◌, fold, length, All, Option, Some, None}

abbrev pub is_digit : ℕ → Bool
is_digit c = nat_le 48 c && nat_le c 57

-- a number with one more digit
abbrev pub with_digit : ℕ → ℕ → ℕ
with_digit n c = n * 10 + (c - 48)

-- the number that digits write after those of n
abbrev pub digits_after : ℕ → List ℕ → ℕ
digits_after n digits = fold with_digit n digits

pub data ExponentSign : Type 0 where
  Unsigned : ExponentSign
  Plus : ExponentSign
  Minus : ExponentSign

pub record Exponent : Type 0 where
  pub sign : ExponentSign
  pub digits : List ℕ

-- the digits before the point; a point with the digits after it; an exponent
pub record Literal : Type 0 where
  pub whole : List ℕ
  pub fraction : Option (List ℕ)
  pub exponent : Option Exponent

abbrev pub spell_sign : ExponentSign → List ℕ
spell_sign Unsigned = []
spell_sign Plus = 43 ∷ []
spell_sign Minus = 45 ∷ []

abbrev pub spell_fraction : Option (List ℕ) → List ℕ
spell_fraction None = []
spell_fraction (Some digits) = 46 ∷ digits

abbrev pub spell_exponent : Option Exponent → List ℕ
spell_exponent None = []
spell_exponent (Some e) = 69 ∷ (spell_sign e.sign ++ e.digits)

abbrev pub spell_literal : Literal → List ℕ
spell_literal l = l.whole ++ (spell_fraction l.fraction ++ spell_exponent l.exponent)

-- at least one digit, and nothing else
pub record IsDigits (digits : List ℕ) : Type 0 where
  pub some : digits ≢ []
  pub each : All (λ c. is_digit c ≡ true) digits

abbrev pub IsFraction : Option (List ℕ) → Type 0
IsFraction None = Unit {0}
IsFraction (Some digits) = IsDigits digits

abbrev pub IsExponent : Option Exponent → Type 0
IsExponent None = Unit {0}
IsExponent (Some e) = IsDigits e.digits

-- digits before the point may be left out only if digits follow it
abbrev pub IsMantissa : List ℕ → Option (List ℕ) → Type 0
IsMantissa whole None = IsDigits whole
IsMantissa whole (Some digits) = All (λ c. is_digit c ≡ true) whole × IsDigits digits

pub record IsLiteral (l : Literal) : Type 0 where
  pub mantissa : IsMantissa l.whole l.fraction
  pub exponent : IsExponent l.exponent

abbrev pub raise : ExponentSign → ℕ → ℕ
raise Minus n = 0
raise Plus n = n
raise Unsigned n = n

abbrev pub lower : ExponentSign → ℕ → ℕ
lower Minus n = n
lower Plus n = 0
lower Unsigned n = 0

-- the digits after the point
abbrev pub fraction_of : Option (List ℕ) → List ℕ
fraction_of None = []
fraction_of (Some digits) = digits

-- the powers of ten by which an exponent raises and lowers
abbrev pub raised_by : Option Exponent → ℕ
raised_by None = 0
raised_by (Some e) = raise e.sign (digits_after 0 e.digits)

abbrev pub lowered_by : Option Exponent → ℕ
lowered_by None = 0
lowered_by (Some e) = lower e.sign (digits_after 0 e.digits)

-- the exact value of a literal is its numerator over its denominator
abbrev pub numerator : Literal → ℕ
numerator l = digits_after 0 (l.whole ++ fraction_of l.fraction) * 10 ^ raised_by l.exponent

abbrev pub denominator : Literal → ℕ
denominator l = 10 ^ (length (fraction_of l.fraction) + lowered_by l.exponent)
