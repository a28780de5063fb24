-- SPDX-License-Identifier: Apache-2.0
-- Sets of kinds of characters, joined and apart.
use Rattle.std.proofs.Common.{◌≡◌, ℕ, zero, suc, ◌<◌, Bool, true, false, ◌==◌, refl, sym, ap, ◌∙◌, arith}
use Rattle.std.specs.Prelude.{not, ◌&&◌, ◌||◌, max, min}
use Rattle.std.specs.Int.{bit_at}
use Rattle.std.specs.Int.Bits.{bit_and, bit_or}
use Rattle.std.proofs.lemmas.Nat.Bits.{bit_at_or, bit_at_and, bit_at-lt, bit_at-zero}
use Rattle.mspec.specs.Names.{is_character}
use Rattle.mtext.specs.ClassSets.{kind_of, has_kind}

either : (p : Bool) (x y : ℕ) → x < 2 → y < 2 → (p && (max x y == 1)) ≡ ((p && (y == 1)) || (p && (x == 1)))
either false x y _ _ = refl
either true zero zero _ _ = refl
either true zero (suc zero) _ _ = refl
either true (suc zero) zero _ _ = refl
either true (suc zero) (suc zero) _ _ = refl
either true (suc (suc x)) y small _ = absurd (omega arith)
either true x (suc (suc y)) _ small = absurd (omega arith)

pub joined : (a b c : ℕ) → has_kind (bit_or a b) c ≡ (has_kind b c || has_kind a c)
joined a b c =
    let k = kind_of c in
    ap (λ (n : ℕ). is_character c && (n == 1)) (bit_at_or a b k) ∙ either (is_character c) (bit_at a k) (bit_at b k) (bit_at-lt a k) (bit_at-lt b k)

is_zero : (n : ℕ) → not (n == 0) ≡ false → n ≡ 0
is_zero n e = grind (arith, e)

neither : (p : Bool) (x y : ℕ) → min x y ≡ 0 → (p && (y == 1)) ≡ true → (p && (x == 1)) ≡ false
neither false x y none has = refl
neither true zero y none has = refl
neither true (suc x) zero none has = absurd cc
neither true (suc x) (suc y) none has = absurd (omega (arith, none))

pub apart : (a b c : ℕ) → not (bit_and a b == 0) ≡ false → has_kind b c ≡ true → has_kind a c ≡ false
apart a b c none =
    let k = kind_of c in
    neither (is_character c) (bit_at a k) (bit_at b k) (sym (bit_at_and a b k) ∙ ap (λ (n : ℕ). bit_at n k) (is_zero (bit_and a b) none) ∙ bit_at-zero k)
