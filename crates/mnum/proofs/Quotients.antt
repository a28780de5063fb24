-- SPDX-License-Identifier: Apache-2.0
-- The quotient of two sizes.
use Rattle.mnum.proofs.NumWords.{ℕ, zero, suc, ◌≡◌, ◌+◌, ◌*◌, ◌-◌, ◌/◌, ◌%◌, Some, ◌^◌, ◌<◌, ◌≤◌, ◌⊎◌, Bool, true, false, not, Option, None, refl, sym, ◌∙◌, ap}
use Rattle.mnum.proofs.NumWords.{subst, arith, inl, inr, ⊎_elim, unsigned_abs, option_map, abs_signed, div-add-mod, div-mul-le_self, lt-div-mul-add, le-div}
use Rattle.mnum.proofs.NumWords.{IsFloor, IsFine, ten_pos, ten_add, round_none, round_size, signed, over_size, round, zero-mul, div-le_self, mul-le-mul_right}
use Rattle.mnum.proofs.NumWords.{mul-le-mul_left, mul-pos, mul-lt-mul_of_pos_right, mul_assoc, beq}
use Rattle.mnum.proofs.Rounds.{exact_some}
use Rattle.mnum.proofs.SignLaws.{with_sign}

pub over_size_signed : (s t : Bool) (m n : ℕ) → 0 < n → over_size (signed s m) (signed t n) ≡ signed (not (beq s t)) m
over_size_signed s t m zero h = absurd (omega arith)
over_size_signed false false m (suc n) h = refl
over_size_signed true false m (suc n) h = refl
over_size_signed false true m (suc n) h = refl
over_size_signed true true zero (suc n) h = refl
over_size_signed true true (suc m) (suc n) h = refl

-- a / b in their own places, against the same in units
pub same_ratio : (a sa sb t shift : ℕ) → sa ≤ 18 → sb ≤ 18 → t + sb ≡ shift + sa → a * 10 ^ (18 - sa) * 10 ^ t ≡ a * 10 ^ shift * 10 ^ (18 - sb)
same_ratio a sa sb t shift ha hb e =
    mul_assoc a (10 ^ (18 - sa)) (10 ^ t)
    ∙ ap (λ x. a * x) (sym (ten_add (18 - sa) t) ∙ ap (λ x. 10 ^ x) (exponents sa sb t shift ha hb e) ∙ ten_add shift (18 - sb))
    ∙ sym (mul_assoc a (10 ^ shift) (10 ^ (18 - sb)))
  where
    exponents : (sa sb t shift : ℕ) → sa ≤ 18 → sb ≤ 18 → t + sb ≡ shift + sa → 18 - sa + t ≡ shift + (18 - sb)
    exponents sa sb t shift ha hb e = omega arith

pub quotient_floor : (a b sa sb t shift v n : ℕ) → sa ≤ 18 → sb ≤ 18 → 0 < b → t + sb ≡ shift + sa → v ≡ a * 10 ^ shift → n ≡ v / b → IsFloor n t (a * 10 ^ (18 - sa)) (b * 10 ^ (18 - sb))
quotient_floor a b sa sb t shift v n ha hb some e value is =
    let unit : ℕ = 10 ^ (18 - sb) in
    let whole : a * 10 ^ (18 - sa) * 10 ^ t ≡ v * unit = same_ratio a sa sb t shift ha hb e ∙ ap (λ x. x * unit) (sym value) in
    let under : v / b * b * unit ≤ v * unit = mul-le-mul_right unit (div-mul-le_self v b) in
    let over : v * unit < (v / b * b + b) * unit = mul-lt-mul_of_pos_right (lt-div-mul-add {a = v} {b = b} some) (ten_pos (18 - sb)) in
    let low : v / b * (b * unit) ≤ a * 10 ^ (18 - sa) * 10 ^ t = omega arith in
    let high : a * 10 ^ (18 - sa) * 10 ^ t < (v / b + 1) * (b * unit) = omega arith in
    record {
      low = subst (λ (x : ℕ). x * (b * unit) ≤ a * 10 ^ (18 - sa) * 10 ^ t) (sym is) low;
      high = subst (λ (x : ℕ). a * 10 ^ (18 - sa) * 10 ^ t < (x + 1) * (b * unit)) (sym is) high;
    }

pub quotient_fine : (a b sa sb t shift v n : ℕ) → 0 < b → b < 10 ^ 18 → sa ≤ 18 → t + sb ≡ shift + sa → n ≡ v / b → ((shift ≡ 19 + sb - sa) ⊎ (10 ^ 37 ≤ v)) → IsFine 18 n t (a * 10 ^ (18 - sa)) (b * 10 ^ (18 - sb))
quotient_fine a b sa sb t shift v n some small ha e is w =
    inr (⊎_elim (λ (all : shift ≡ 19 + sb - sa). inr (omega arith))
    (λ (many : 10 ^ 37 ≤ v). inl (subst (λ (x : ℕ). 10 ^ 18 ≤ x) (sym is) (le-div (10 ^ 18) v b some (omega arith)))) w)

pub quotient_over : (a b sa sb shift v : ℕ) → b < 10 ^ 18 → sa ≤ 18 → sb ≤ 18 → shift + sa < sb → v ≡ a * 10 ^ shift → ((shift ≡ 19 + sb - sa) ⊎ (10 ^ 37 ≤ v)) → round_size 18 (a * 10 ^ (18 - sa)) (b * 10 ^ (18 - sb)) ≡ None
quotient_over a b sa sb shift v small ha hb far value w =
    let many : 10 ^ 37 ≤ v = ⊎_elim (λ (all : shift ≡ 19 + sb - sa). absurd (omega arith)) (λ (m : 10 ^ 37 ≤ v). m) w in
    let rest : ℕ = 18 - sa - shift - (18 - sb) in
    let split : 10 ^ (18 - sa) ≡ 10 ^ shift * (10 ^ rest * 10 ^ (18 - sb)) =
    ap (λ x. 10 ^ x) (exponents sa sb shift ha hb far) ∙ ten_add shift (rest + (18 - sb)) ∙ ap (λ x. 10 ^ shift * x) (ten_add rest (18 - sb)) in
    let whole : a * 10 ^ (18 - sa) ≡ v * 10 ^ rest * 10 ^ (18 - sb) = ap (λ x. a * x) split ∙ omega (arith, ap (λ x. x * (10 ^ rest * 10 ^ (18 - sb))) value) in
    let first : 10 ^ 18 * b ≤ v = omega arith in
    let second : v ≤ v * 10 ^ rest = grind (arith, ten_pos rest, mul-le-mul_left {m = 1} {n = 10 ^ rest} v) in
    let third : 10 ^ 18 * b * 10 ^ (18 - sb) ≤ v * 10 ^ rest * 10 ^ (18 - sb) = mul-le-mul_right (10 ^ (18 - sb)) (omega arith) in
    round_none 18 (a * 10 ^ (18 - sa)) (b * 10 ^ (18 - sb)) (omega arith)
  where
    exponents : (sa sb shift : ℕ) → sa ≤ 18 → sb ≤ 18 → shift + sa < sb → 18 - sa ≡ shift + (18 - sa - shift - (18 - sb) + (18 - sb))
    exponents sa sb shift ha hb far = omega arith

pub quotient_rounded : (s t : Bool) (A B : ℕ) (x : Option ℕ) → 0 < B → x ≡ round_size 18 A B →
    (0 < unsigned_abs (signed t B)) × (round 18 (over_size (signed s A) (signed t B)) (unsigned_abs (signed t B)) ≡ option_map (signed (not (beq s t))) x)
quotient_rounded s t A B x some e = (
  subst (λ (n : ℕ). 0 < n) (sym (abs_signed t B)) some,
  ap (λ n. round 18 (over_size (signed s A) (signed t B)) n) (abs_signed t B)
      ∙ with_sign 18 A B (not (beq s t)) x (over_size (signed s A) (signed t B)) some e (over_size_signed s t A B some),
)

pub some_digits : (b : ℕ) → (b ≡ 0 → ⊥) → 0 < b
some_digits b h = omega arith

pub some_units : (b sb : ℕ) → 0 < b → 0 < b * 10 ^ (18 - sb)
some_units b sb some = mul-pos some (ten_pos (18 - sb))

-- an exact quotient of digits with zeros after them
pub exact_quotient : (a b sa sb k v : ℕ) → sa ≤ 18 → sb ≤ 18 → 0 < b → sb ≤ sa + k → sa + k - sb ≤ 18 → v ≡ a * 10 ^ k → v < 10 ^ 18 → v % b ≡ 0
    → Some (v / b * 10 ^ (18 - (sa + k - sb))) ≡ round_size 18 (a * 10 ^ (18 - sa)) (b * 10 ^ (18 - sb))
exact_quotient a b sa sb k v ha hb some near few value small none =
    let t : ℕ = sa + k - sb in
    let u : ℕ = 10 ^ (18 - sb) in
    let whole : b * (v / b) + v % b ≡ v = div-add-mod v b in
    let scaled : (b * (v / b) + v % b) * u ≡ v * u = ap (λ x. x * u) whole in
    let zero_part : v % b * u ≡ 0 = ap (λ x. x * u) none ∙ zero-mul u in
    let units : v / b * (b * u) ≡ v * u = omega arith in
    let exact : v / b * (b * u) ≡ a * 10 ^ (18 - sa) * 10 ^ t = units ∙ ap (λ x. x * u) value ∙ sym (same_ratio a sa sb t k ha hb (omega arith)) in
    sym (exact_some 18 t (v / b) (a * 10 ^ (18 - sa)) (b * u) (omega arith) few (some_units b sb some) (omega (arith, div-le_self v b)) exact)
