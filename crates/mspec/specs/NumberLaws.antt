-- SPDX-License-Identifier: Apache-2.0
-- The laws of numbers and of their texts, in the subject's own words. The functions of src/ named after them carry them.
use Rattle.std.specs.Prelude.{◌≡◌, ◌≢◌, ℕ, ◌+◌, ◌-◌, ◌*◌, ◌^◌, ◌<◌, ◌≤◌, ◌⊎◌, Bool, cond, List, [], ◌∷◌, ◌++◌, length, MatchOption, None, Some, ℤ, pos, ◌-ℤ◌}
use Rattle.std.specs.Prelude.{◌*ℤ◌, unsigned_abs}
use Rattle.mspec.specs.Number.{round, round_size, IsNumber}
use Rattle.mspec.specs.Literal.{Literal, IsLiteral, spell_literal, fraction_of, numerator, denominator}
use Rattle.mspec.specs.NumberText.{literal_size, numeric_value, number_text, IsCanonical}

-- p / q has d digits before its point, where d = a - b: 10 ^ (d - 1) ≤ |p| / q < 10 ^ d
pub record HasDigits (p : ℤ) (q a b : ℕ) : Type 0 where
  pub low : 10 ^ a * q ≤ unsigned_abs p * 10 ^ (b + 1)
  pub high : unsigned_abs p * 10 ^ b < 10 ^ a * q

-- how far u units of 10 ^ -18 are from p / q, times 10 ^ 18 and q
abbrev pub distance : ℤ → ℕ → ℤ → ℕ
distance p q u = unsigned_abs (u *ℤ pos q -ℤ p *ℤ pos (10 ^ 18))

abbrev pub IsMultiple : ℕ → ℤ → Type 0
IsMultiple g u = (m : ℕ) × (unsigned_abs u ≡ m * g)

-- u is the multiple of g at most half of g from p / q; of two, the one larger in size
pub record IsNearest (g : ℕ) (p : ℤ) (q : ℕ) (u : ℤ) : Type 0 where
  pub multiple : IsMultiple g u
  pub near : 2 * distance p q u ≤ g * q
  pub larger : (v : ℤ) → IsMultiple g v → 2 * distance p q v ≤ g * q → unsigned_abs v ≤ unsigned_abs u

-- a fraction with d digits before its point is rounded to the nearest multiple of 10 ^ (d - kept), or of a unit if that is
-- larger; there is no number exactly when the fraction or the multiple reaches 10 ^ 18
abbrev pub RoundingIsNearest : Type 0
RoundingIsNearest =
    (kept : ℕ) (p : ℤ) (q a b : ℕ) → 0 < q → HasDigits p q a b →
    let g = 10 ^ (a + 18 - (b + kept)) in
    MatchOption (round kept p q)
    ((10 ^ 18 * q ≤ unsigned_abs p) ⊎ ((u : ℤ) × IsNearest g p q u × (10 ^ 36 ≤ unsigned_abs u)))
    (λ u. (unsigned_abs p < 10 ^ 18 * q) × IsNearest g p q u × (unsigned_abs u < 10 ^ 36))

-- each fraction but 0 has digits
abbrev pub EachHasDigits : Type 0
EachHasDigits = (p : ℤ) (q : ℕ) → 0 < unsigned_abs p → 0 < q → (a : ℕ) × (b : ℕ) × HasDigits p q a b

-- there is one nearest multiple
abbrev pub NearestIsUnique : Type 0
NearestIsUnique = (g : ℕ) (p : ℤ) (q : ℕ) (u v : ℤ) → 0 < g → 0 < q → IsNearest g p q u → IsNearest g p q v → u ≡ v

-- what is rounded is a number, 0 is rounded to 0, and a number is rounded to itself
abbrev pub RoundedIsNumber : Type 0
RoundedIsNumber = (kept : ℕ) (p : ℤ) (q : ℕ) (u : ℤ) → 0 < kept → 0 < q → round kept p q ≡ Some u → IsNumber kept u

abbrev pub ZeroRoundsToZero : Type 0
ZeroRoundsToZero = (kept q : ℕ) → 0 < q → round kept (pos 0) q ≡ Some (pos 0)

abbrev pub NumberRoundsToItself : Type 0
NumberRoundsToItself = (kept : ℕ) (u : ℤ) → IsNumber kept u → round kept u (10 ^ 18) ≡ Some u

-- a text begins with no literal, and its size is 0, or with a longest one, and its size is the rounded value of that
abbrev pub BeginsWith : List ℕ → Literal → Type 0
BeginsWith s l = IsLiteral l × ((rest : List ℕ) × (s ≡ spell_literal l ++ rest))

pub record IsLongest (s : List ℕ) (l : Literal) : Type 0 where
  pub begins : BeginsWith s l
  pub longest : (other : Literal) → BeginsWith s other → length (spell_literal other) ≤ length (spell_literal l)

abbrev pub ReadsLongestLiteral : Type 0
ReadsLongestLiteral =
    (kept : ℕ) (s : List ℕ) →
    (((l : Literal) → BeginsWith s l → ⊥) × (literal_size kept s ≡ Some 0))
    ⊎ ((l : Literal) × IsLongest s l × (literal_size kept s ≡ round_size kept (numerator l) (denominator l)))

-- the text of a number has that number as its value, and is canonical; it is the one canonical text of the number
abbrev pub TextHasValue : Type 0
TextHasValue = (kept : ℕ) (u : ℤ) → IsNumber kept u → numeric_value kept (number_text u) ≡ Some u

abbrev pub CanonicalIsText : Type 0
CanonicalIsText = (kept : ℕ) (u : ℤ) (s : List ℕ) → IsCanonical kept s → numeric_value kept s ≡ Some u → s ≡ number_text u

-- The canonical form: no zero in front, none at the end of a fraction, no exponent, no `+`; 0 is `0`.
abbrev pub NoZeroInFront : List ℕ → Type 0
NoZeroInFront [] = Unit {0}
NoZeroInFront (c ∷ digits) = c ≢ 48

abbrev pub NoZeroAtEnd : List ℕ → Type 0
NoZeroAtEnd digits = (front : List ℕ) → digits ≡ front ++ (48 ∷ []) → ⊥

pub record IsPlain (l : Literal) : Type 0 where
  pub literal : IsLiteral l
  pub whole : NoZeroInFront l.whole
  pub fraction : NoZeroAtEnd (fraction_of l.fraction)
  pub no_exponent : l.exponent ≡ None

abbrev pub HasCanonicalForm : List ℕ → Type 0
HasCanonicalForm s =
    (s ≡ 48 ∷ []) ⊎ ((negative : Bool) × (l : Literal) × IsPlain l × (s ≡ cond negative (45 ∷ []) [] ++ spell_literal l))

-- the text of a number has that form, and no two literals of that form have the same value
abbrev pub TextHasCanonicalForm : Type 0
TextHasCanonicalForm = (kept : ℕ) (u : ℤ) → IsNumber kept u → HasCanonicalForm (number_text u)

abbrev pub PlainLiteralIsUnique : Type 0
PlainLiteralIsUnique =
    (k l : Literal) → IsPlain k → IsPlain l → numerator k * denominator l ≡ numerator l * denominator k →
    spell_literal k ≡ spell_literal l

-- a text that is canonical with fewer digits is also canonical with more, and has the same value
abbrev pub CanonicalByMoreDigits : Type 0
CanonicalByMoreDigits =
    (fewer more : ℕ) (s : List ℕ) → 0 < fewer → fewer ≤ more → IsCanonical fewer s → IsCanonical more s × (numeric_value more s ≡ numeric_value fewer s)
