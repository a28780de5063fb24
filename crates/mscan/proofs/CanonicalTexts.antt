-- SPDX-License-Identifier: Apache-2.0
-- A test of whether a text is the canonical one of a number says whether it has a canonical value.
use Rattle.std.proofs.Common.{◌≡◌, Bool, true, false, List, ℕ, Option, Some, None, refl}
use Rattle.std.specs.Prelude.{IsTrue, ◌↔◌, is_some, ℤ}
use Rattle.mspec.specs.Number.{significant_digits}
use Rattle.mspec.specs.NumberText.{IsCanonical}
use Rattle.mspec.specs.NodeOrder.{canonical_value}
use Rattle.mspec.proofs.NodeOrders.{canonical_of_value, none_of_other}

pub canonical_told : (b : Bool) (s : List ℕ) → (IsTrue b ↔ IsCanonical significant_digits s) → is_some (canonical_value significant_digits s) ≡ b
canonical_told true s h = here (canonical_value significant_digits s) refl
  where
    here : (o : Option ℤ) → canonical_value significant_digits s ≡ o → is_some o ≡ true
    here None e = absurd (none_of_other significant_digits s e (h.0 refl))
    here (Some u) e = refl
canonical_told false s h = here (canonical_value significant_digits s) refl
  where
    here : (o : Option ℤ) → canonical_value significant_digits s ≡ o → is_some o ≡ false
    here None e = refl
    here (Some u) e =
        let is = canonical_of_value significant_digits s u e in
        let no : IsTrue false = h.1 (record { number = u; value = is.0; text = is.1 }) in
        absurd (cc)
