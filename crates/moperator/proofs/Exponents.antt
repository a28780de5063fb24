-- SPDX-License-Identifier: Apache-2.0
-- What is asked of the numbers of a power: by whether the exponent is whole, and whether one of the two is not 0.
use Rattle.moperator.proofs.OperatorWords.{◌≡◌, Bool, true, false, Ok, Err, refl, Act, ◌>>◌, give, unless, Yields, yields_gives, fault_of, Code}
use Rattle.std.specs.Prelude.{ℤ}
use Rattle.mspec.specs.Code.{M28, M94}
use Rattle.moperator.specs.declared.code.Code.TheVariants as code

module _ {X : Type 0} (f : X → ℤ × ℤ) (p : ℤ × ℤ) where
  abbrev asked : Bool → Bool → Act (ℤ × ℤ)
  asked whole some = unless M28 whole >> (unless M94 some >> give p)

  pub has_fraction : (whole some : Bool) → whole ≡ false → Yields {E = Code} fault_of (asked whole some) f (Err code.M28)
  has_fraction true some h = absurd cc
  has_fraction false some h = record { ends = λ s. refl }

  pub both_zero : (whole some : Bool) → whole ≡ true → some ≡ false → Yields {E = Code} fault_of (asked whole some) f (Err code.M94)
  both_zero false some h k = absurd cc
  both_zero true true h k = absurd cc
  both_zero true false h k = record { ends = λ s. refl }

  pub may_be_raised : (whole some : Bool) (x : X) → whole ≡ true → some ≡ true → f x ≡ p → Yields {E = Code} fault_of (asked whole some) f (Ok x)
  may_be_raised false some x h k is = absurd cc
  may_be_raised true false x h k is = absurd cc
  may_be_raised true true x h k is = yields_gives p f x is
