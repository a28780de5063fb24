-- SPDX-License-Identifier: Apache-2.0
-- The order of character codes as the comparison of slices has it.
use Rattle.mtext.proofs.TextWords.{◌≡◌, ℕ, Bool, List, refl, arith, eqb, Ordering, nat_tests, follows}
use Rattle.std.specs.Ordering.{nat_cmp, ordering_index}
use Rattle.std.specs.Cmp.Lexicographic.{slice_cmp}
use Rattle.std.proofs.lemmas.Cmp.{same_from_slice_cmp}

-- the test for `Greater`
abbrev is_greater : Ordering → Bool
is_greater o = eqb (ordering_index o) 2

-- one text follows another exactly if the comparison of slices says `Greater`
pub follows_is : (s t : List ℕ) (o : Ordering) → o ≡ slice_cmp nat_cmp s t → eqb (ordering_index o) 2 ≡ follows s t
follows_is = same_from_slice_cmp nat_cmp is_greater follows refl (λ _ _. refl) (λ _ _. refl) (λ x y xs ys o h. grind (arith, nat_tests))
