-- SPDX-License-Identifier: Apache-2.0
-- When one to eighteen digits are canonical.
use Rattle.mnum.proofs.NumWords.{ℕ, suc, ◌≡◌, ◌<◌, ◌≤◌, true, not, List, [], ◌∷◌, length, get_or, All, sym, ap, subst, arith, ⊎_elim, IsTrue, nat_eq, nat_tests}
use Rattle.mnum.proofs.NumWords.{is_digit, IsCanonical, NoZeroInFront, zero_is_canonical, whole_is_canonical, front_of_canonical}

-- one to eighteen digits
pub record IsShort (s : List ℕ) : Type 0 where
  pub some : 0 < length s
  pub short : length s ≤ 18
  pub digits : All (λ c. is_digit c ≡ true) s

pub test_differs : (x y : ℕ) → (x ≡ y → ⊥) → IsTrue (not (nat_eq x y))
test_differs x y h = grind (arith, nat_tests)

-- they are if no 0 is in front
pub canonical_front : (s : List ℕ) → IsShort s → (get_or s 0 0 ≡ 48 → ⊥) → IsCanonical 18 s
canonical_front [] short front = absurd (omega (arith, short.some))
canonical_front (c ∷ s) short front = whole_is_canonical c s short.digits front short.short

-- with a 0 in front only that digit alone is
pub one_zero : (s : List ℕ) → IsShort s → get_or s 0 0 ≡ 48 → IsTrue (nat_eq (length s) 1) → IsCanonical 18 s
one_zero [] short front alone = absurd (omega (arith, short.some))
one_zero (c ∷ []) short front alone = subst (λ (x : ℕ). IsCanonical 18 (x ∷ [])) (sym front) zero_is_canonical
one_zero (c ∷ d ∷ s) short front alone = absurd (many (length s) alone)
  where
    many : (n : ℕ) → IsTrue (nat_eq (suc (suc n)) 1) → ⊥
    many n h = grind (arith, nat_tests)

pub zero_alone : (s : List ℕ) → IsShort s → get_or s 0 0 ≡ 48 → IsCanonical 18 s → IsTrue (nat_eq (length s) 1)
zero_alone s short front canonical =
    ⊎_elim
    (λ (zero : s ≡ 48 ∷ []). ap (λ t. nat_eq (length t) 1) zero)
    (λ (other : NoZeroInFront s). absurd (front_differs s short other front))
    (front_of_canonical s short.digits short.short canonical)
  where
    front_differs : (s : List ℕ) → IsShort s → NoZeroInFront s → get_or s 0 0 ≡ 48 → ⊥
    front_differs [] short other front = absurd (omega (arith, short.some))
    front_differs (c ∷ s) short other front = other front
