-- SPDX-License-Identifier: Apache-2.0
-- What is rounded is the nearest multiple of its unit, there is one such multiple, and each fraction has digits.
use Rattle.mspec.proofs.SpecWords.{ℕ, zero, suc, ◌≡◌, ◌+◌, ◌*◌, ◌-◌, ◌/◌, ◌^◌, ◌<◌, ◌≤◌, ◌⊎◌, Bool, true, false, Option, refl, sym, ◌∙◌, ap, subst, arith, inl}
use Rattle.mspec.proofs.SpecWords.{inr, ⊎_elim, ℤ, pos, negsuc, ◌-ℤ◌, ◌*ℤ◌, neg_ℤ, option_map, unsigned_abs, MatchOption, mul-pos, zero-mul, mul-le-mul_left}
use Rattle.mspec.proofs.SpecWords.{mul-le-mul_right, mul-lt-mul_of_pos_right, le_of_mul-le-mul_right, lt_of_mul-lt-mul_right, div-mul-le_self, lt-div-mul-add}
use Rattle.mspec.proofs.SpecWords.{pow-suc, cases_lt, nat_tests, digits_before, nearest, rounding_unit, round_size, round, signed, HasDigits, IsMultiple}
use Rattle.mspec.proofs.SpecWords.{IsNearest, distance, RoundingIsNearest, NearestIsUnique, EachHasDigits}
use Rattle.std.proofs.lemmas.Int.{ints}
use Rattle.mspec.proofs.Powers.{ten_pos, ten_add, ten_monotone}
use Rattle.mspec.proofs.Rounding.{digits_before_is, rounding_unit_is, round_none, round_up_none, round_some}
use Rattle.mspec.proofs.NearestLaws.{digits_before_high}

-- a fraction that is not below a power of ten, at another scale
pub scale_le : (a b t p q : ℕ) → a + t ≡ b + 18 → 10 ^ b * q ≤ p * 10 ^ t → 10 ^ a * q ≤ p * 10 ^ 18
scale_le a b t p q e h =
    let same : 10 ^ a * 10 ^ t ≡ 10 ^ b * 10 ^ 18 = sym (ten_add a t) ∙ ap (λ n. 10 ^ n) e ∙ ten_add b 18 in
    let up : 10 ^ b * q * 10 ^ 18 ≤ p * 10 ^ t * 10 ^ 18 = mul-le-mul_right (10 ^ 18) h in
    let both : 10 ^ a * 10 ^ t * q ≡ 10 ^ b * 10 ^ 18 * q = ap (λ n. n * q) same in
    le_of_mul-le-mul_right {k = 10 ^ t} (omega arith) (ten_pos t)

-- a fraction that is below a power of ten, at another scale
pub scale_lt : (a b t p q : ℕ) → a + t ≡ b + 18 → p * 10 ^ t < 10 ^ b * q → p * 10 ^ 18 < 10 ^ a * q
scale_lt a b t p q e h =
    let same : 10 ^ a * 10 ^ t ≡ 10 ^ b * 10 ^ 18 = sym (ten_add a t) ∙ ap (λ n. 10 ^ n) e ∙ ten_add b 18 in
    let up : p * 10 ^ t * 10 ^ 18 < 10 ^ b * q * 10 ^ 18 = mul-lt-mul_of_pos_right h (ten_pos 18) in
    let both : 10 ^ a * 10 ^ t * q ≡ 10 ^ b * 10 ^ 18 * q = ap (λ n. n * q) same in
    lt_of_mul-lt-mul_right (10 ^ t) (omega arith)

-- a fraction below 10 ^ 18 has at most 18 digits before its point
few_digits : (n q a b : ℕ) → n < 10 ^ 18 * q → 10 ^ a * q ≤ n * 10 ^ (b + 1) → a ≤ b + 18
few_digits n q a b h low =
    ⊎_elim
    (λ (less : a < b + 19). let few : a ≤ b + 18 = omega arith in few)
    (λ (more : b + 19 ≤ a).
    let scaled : n * 10 ^ (b + 1) < 10 ^ 18 * q * 10 ^ (b + 1) = mul-lt-mul_of_pos_right h (ten_pos (b + 1)) in
    let split : 10 ^ (18 + (b + 1)) * q ≡ 10 ^ 18 * 10 ^ (b + 1) * q = ap (λ x. x * q) (ten_add 18 (b + 1)) in
    let clash : ⊥ = omega (arith, ten_monotone (18 + (b + 1)) a q (omega arith)) in
    absurd clash)
    (cases_lt a (b + 19))

-- the digits of a fraction in units, from the digits of the fraction
unit_digits : (n q a b : ℕ) → n < 10 ^ 18 * q → 10 ^ a * q ≤ n * 10 ^ (b + 1) → n * 10 ^ b < 10 ^ a * q → digits_before 36 (n * 10 ^ 18) q ≡ a + 18 - b
unit_digits n q a b h low high =
    let few : a ≤ b + 18 = few_digits n q a b h low in
    ⊎_elim
    (λ (none : a + 18 < b).
    let less : n * 10 ^ (a + 18) < 10 ^ a * q = omega (arith, ten_monotone (a + 18) b n (omega arith)) in
    let under : n * 10 ^ 18 < 10 ^ 0 * q = scale_lt 0 a (a + 18) n q (omega arith) less in
    let no_digits : 0 ≡ a + 18 - b = omega arith in
    digits_before_is 36 0 (n * 10 ^ 18) q (omega arith) (inl refl) under ∙ no_digits)
    (λ (some : b ≤ a + 18).
    let k : ℕ = a + 18 - b in
    let under : n * 10 ^ 18 < 10 ^ k * q = scale_lt k a b n q (omega arith) high in
    digits_before_is 36 k (n * 10 ^ 18) q (omega arith)
    (⊎_elim
    (λ (empty : k < 1). inl (omega arith))
    (λ (more : 1 ≤ k). inr (scale_le (k - 1) a (b + 1) n q (omega arith) low))
    (cases_lt k 1))
    under)
    (cases_lt (a + 18) b)

-- the unit to which such a fraction is rounded
unit_is : (kept n q a b : ℕ) → n < 10 ^ 18 * q → 10 ^ a * q ≤ n * 10 ^ (b + 1) → n * 10 ^ b < 10 ^ a * q → rounding_unit kept (n * 10 ^ 18) q ≡ 10 ^ (a + 18 - (b + kept))
unit_is kept n q a b h low high =
    let exponent : digits_before 36 (n * 10 ^ 18) q - kept ≡ a + 18 - (b + kept) = omega (arith, unit_digits n q a b h low high) in
    rounding_unit_is kept (n * 10 ^ 18) q ∙ ap (λ x. 10 ^ x) exponent

-- x is the multiple of g nearest to P / q
record NearestSize (g P q x : ℕ) : Type 0 where
  multiple : (m : ℕ) × (x ≡ m * g)
  low : 2 * (x * q) ≤ 2 * P + g * q
  high : 2 * P ≤ 2 * (x * q) + g * q
  top : (k : ℕ) → 2 * (k * g * q) ≤ 2 * P + g * q → k * g ≤ x

-- a count of steps that is not above the quotient
count_le : (k m c X : ℕ) → k * c ≤ X → X < m * c + c → k ≤ m
count_le k m c X low high =
    let less : k * c < (m + 1) * c = omega arith in
    let few : k < m + 1 = lt_of_mul-lt-mul_right c less in
    omega arith

-- the nearest multiple is near, and it is the largest one that is near
nearest_is_nearest : (g P q : ℕ) → 0 < g → 0 < q → NearestSize g P q (nearest g P q)
unfolding nearest
nearest_is_nearest g P q some_g some_q =
    let X : ℕ = 2 * P + g * q in
    let m : ℕ = X / (2 * (g * q)) in
    let pos : 0 < g * q = mul-pos some_g some_q in
    let most : m * (2 * (g * q)) ≤ X = div-mul-le_self X (2 * (g * q)) in
    let less : X < m * (2 * (g * q)) + 2 * (g * q) = lt-div-mul-add {a = X} {b = 2 * (g * q)} (omega arith) in
    record {
      multiple = (m, refl);
      low = omega arith;
      high = omega arith;
      top = λ (k : ℕ) (h : 2 * (k * g * q) ≤ 2 * P + g * q).
          let few : k ≤ m = count_le k m (2 * (g * q)) X (omega arith) less in
          mul-le-mul_right g few;
    }

-- a sign goes into a product
pub signed_scale : (s : Bool) (m n : ℕ) → signed s m *ℤ pos n ≡ signed s (m * n)
signed_scale false m n = refl
signed_scale true zero n = rw zero-mul refl
signed_scale true (suc m) n = refl

-- a sign leaves the size as it is
pub abs_signed : (s : Bool) (n : ℕ) → unsigned_abs (signed s n) ≡ n
abs_signed false n = refl
abs_signed true zero = refl
abs_signed true (suc n) = refl

-- the distance of two signed sizes
distance_is : (s t : Bool) (n q x : ℕ) → distance (signed s n) q (signed t x) ≡ unsigned_abs (signed t (x * q) -ℤ signed s (n * 10 ^ 18))
distance_is s t n q x =
    ap (λ z. unsigned_abs (z -ℤ signed s n *ℤ pos (10 ^ 18))) (signed_scale t x q)
    ∙ ap (λ z. unsigned_abs (signed t (x * q) -ℤ z)) (signed_scale s n (10 ^ 18))

-- sizes that are near are near with one sign
near_signed : (s : Bool) (A B h : ℕ) → 2 * A ≤ 2 * B + h → 2 * B ≤ 2 * A + h → 2 * unsigned_abs (signed s A -ℤ signed s B) ≤ h
near_signed false A B h low high = omega (arith, ints)
near_signed true A B h low high = omega (arith, ints)

-- what is near with any signs is not far above in size
near_sizes : (s t : Bool) (A B h : ℕ) → 2 * unsigned_abs (signed t A -ℤ signed s B) ≤ h → 2 * A ≤ 2 * B + h
near_sizes false false A B h e = omega (arith, ints)
near_sizes false true A B h e = omega (arith, ints)
near_sizes true false A B h e = omega (arith, ints)
near_sizes true true A B h e = omega (arith, ints)

-- a size that with any sign is near a fraction is not above the nearest one
top_signed : (s t : Bool) (g n q x y : ℕ) → NearestSize g (n * 10 ^ 18) q x → (m : ℕ) × (y ≡ m * g) → 2 * distance (signed s n) q (signed t y) ≤ g * q → y ≤ x
top_signed s t g n q x y nearest_size some near =
    let m : ℕ = some.0 in
    let sizes : 2 * (y * q) ≤ 2 * (n * 10 ^ 18) + g * q = near_sizes s t (y * q) (n * 10 ^ 18) (g * q) (omega (arith, near, distance_is s t n q y)) in
    let same : y * q ≡ m * g * q = ap (λ k. k * q) some.1 in
    let most : m * g ≤ x = nearest_size.top m (omega arith) in
    omega (arith, most, some.1)

-- a multiple near a fraction is not above the nearest one in size
top_whole : (s : Bool) (g n q x : ℕ) → NearestSize g (n * 10 ^ 18) q x → (v : ℤ) → IsMultiple g v → 2 * distance (signed s n) q v ≤ g * q → unsigned_abs v ≤ x
top_whole s g n q x nearest_size (pos y) some near = top_signed s false g n q x y nearest_size some near
top_whole s g n q x nearest_size (negsuc y) some near = top_signed s true g n q x (suc y) nearest_size some near

-- the nearest size, with the sign of the fraction, is nearest
nearest_signed : (s : Bool) (g n q x : ℕ) → NearestSize g (n * 10 ^ 18) q x → IsNearest g (signed s n) q (signed s x)
nearest_signed s g n q x nearest_size =
    let near : 2 * unsigned_abs (signed s (x * q) -ℤ signed s (n * 10 ^ 18)) ≤ g * q = near_signed s (x * q) (n * 10 ^ 18) (g * q) nearest_size.low nearest_size.high in
    record {
      multiple = (nearest_size.multiple.0, abs_signed s x ∙ nearest_size.multiple.1);
      near = subst (λ (d : ℕ). 2 * d ≤ g * q) (sym (distance_is s s n q x)) near;
      larger = λ (v : ℤ) (some : IsMultiple g v) (h : 2 * distance (signed s n) q v ≤ g * q).
          subst (λ (k : ℕ). unsigned_abs v ≤ k) (sym (abs_signed s x)) (top_whole s g n q x nearest_size v some h);
    }

-- what is asked of a sign with a rounded size
abbrev RoundsNear : (s : Bool) (g n q : ℕ) → Option ℕ → Type 0
RoundsNear s g n q o =
    MatchOption (option_map (signed s) o)
    ((10 ^ 18 * q ≤ n) ⊎ ((u : ℤ) × IsNearest g (signed s n) q u × (10 ^ 36 ≤ unsigned_abs u)))
    (λ u. (n < 10 ^ 18 * q) × IsNearest g (signed s n) q u × (unsigned_abs u < 10 ^ 36))

-- a fraction from 10 ^ 18 on has no number
near_too_large : (s : Bool) (kept g n q : ℕ) → 10 ^ 18 * q ≤ n → RoundsNear s g n q (round_size kept n q)
near_too_large s kept g n q large = subst (λ (o : Option ℕ). RoundsNear s g n q o) (sym (round_none kept n q large)) (inl large)

-- nor has one whose nearest multiple reaches 10 ^ 18
near_rounded_up : (s : Bool) (kept g n q x : ℕ) → nearest (rounding_unit kept (n * 10 ^ 18) q) (n * 10 ^ 18) q ≡ x → 10 ^ 36 ≤ x → NearestSize g (n * 10 ^ 18) q x → RoundsNear s g n q (round_size kept n q)
near_rounded_up s kept g n q x e large nearest_size =
    let size : 10 ^ 36 ≤ unsigned_abs (signed s x) = subst (λ (k : ℕ). 10 ^ 36 ≤ k) (sym (abs_signed s x)) large in
    subst (λ (o : Option ℕ). RoundsNear s g n q o) (sym (round_up_none kept n q x e large)) (inr (signed s x, nearest_signed s g n q x nearest_size, size))

-- any other has its nearest multiple
near_rounded : (s : Bool) (kept g n q x : ℕ) → n < 10 ^ 18 * q → nearest (rounding_unit kept (n * 10 ^ 18) q) (n * 10 ^ 18) q ≡ x → x < 10 ^ 36 → NearestSize g (n * 10 ^ 18) q x → RoundsNear s g n q (round_size kept n q)
near_rounded s kept g n q x less e small nearest_size =
    let size : unsigned_abs (signed s x) < 10 ^ 36 = subst (λ (k : ℕ). k < 10 ^ 36) (sym (abs_signed s x)) small in
    subst (λ (o : Option ℕ). RoundsNear s g n q o) (sym (round_some kept n q x less e small)) (less, nearest_signed s g n q x nearest_size, size)

-- a sign and a size are rounded as is asked
rounds_near : (s : Bool) (kept n q a b : ℕ) → 0 < q → 10 ^ a * q ≤ n * 10 ^ (b + 1) → n * 10 ^ b < 10 ^ a * q → RoundsNear s (10 ^ (a + 18 - (b + kept))) n q (round_size kept n q)
rounds_near s kept n q a b some low high =
    let g : ℕ = 10 ^ (a + 18 - (b + kept)) in
    let x : ℕ = nearest g (n * 10 ^ 18) q in
    let x_nearest : NearestSize g (n * 10 ^ 18) q x = nearest_is_nearest g (n * 10 ^ 18) q (ten_pos (a + 18 - (b + kept))) some in
    ⊎_elim
    (λ (less : n < 10 ^ 18 * q).
    let x_is : nearest (rounding_unit kept (n * 10 ^ 18) q) (n * 10 ^ 18) q ≡ x = ap (λ k. nearest k (n * 10 ^ 18) q) (unit_is kept n q a b less low high) in
    ⊎_elim
    (λ (small : x < 10 ^ 36). near_rounded s kept g n q x less x_is small x_nearest)
    (λ (large : 10 ^ 36 ≤ x). near_rounded_up s kept g n q x x_is large x_nearest)
    (cases_lt x (10 ^ 36)))
    (λ (large : 10 ^ 18 * q ≤ n). near_too_large s kept g n q large)
    (cases_lt n (10 ^ 18 * q))

-- rounding finds the nearest multiple of its unit
pub rounding_is_nearest : RoundingIsNearest
unfolding round
rounding_is_nearest kept (pos n) q a b some digits = rounds_near false kept n q a b some digits.low digits.high
rounding_is_nearest kept (negsuc n) q a b some digits = rounds_near true kept (suc n) q a b some digits.low digits.high

-- a size and its opposite are near one place only within half of the distance of the two
opposite_near : (A h : ℕ) (X : ℤ) → 2 * unsigned_abs (pos A -ℤ X) ≤ h → 2 * unsigned_abs (neg_ℤ (pos A) -ℤ X) ≤ h → 2 * A ≤ h
opposite_near A h (pos n) e f = omega (arith, ints)
opposite_near A h (negsuc n) e f = omega (arith, ints)

-- no multiple but 0 is as near as its opposite
no_opposite : (g q y : ℕ) (p : ℤ) → 0 < g → 0 < q → 0 < y → (m : ℕ) × (y ≡ m * g) → 2 * distance p q (pos y) ≤ g * q → 2 * distance p q (neg_ℤ (pos y)) ≤ g * q → ⊥
no_opposite g q y p some_g some_q some_y multiple e f =
    let turned : distance p q (neg_ℤ (pos y)) ≡ unsigned_abs (neg_ℤ (pos (y * q)) -ℤ p *ℤ pos (10 ^ 18)) = ap (λ z. unsigned_abs (z -ℤ p *ℤ pos (10 ^ 18))) (signed_scale true y q) in
    let most : 2 * (y * q) ≤ g * q = opposite_near (y * q) (g * q) (p *ℤ pos (10 ^ 18)) e (subst (λ (d : ℕ). 2 * d ≤ g * q) turned f) in
    let one : 1 ≤ multiple.0 = some_steps multiple.0 g y some_y multiple.1 in
    let least : 1 * (g * q) ≤ multiple.0 * (g * q) = mul-le-mul_right (g * q) one in
    let same : y * q ≡ multiple.0 * g * q = ap (λ k. k * q) multiple.1 in
    omega (arith, mul-pos some_g some_q)
  where
    some_steps : (m g y : ℕ) → 0 < y → y ≡ m * g → 1 ≤ m
    some_steps zero g y some e = let none : zero * g ≡ 0 = zero-mul g in absurd (omega arith)
    some_steps (suc m) g y some e = omega arith

-- nearest multiples of one size are the same
same_size : (g : ℕ) (p : ℤ) (q : ℕ) (u v : ℤ) → 0 < g → 0 < q → IsNearest g p q u → IsNearest g p q v → unsigned_abs u ≡ unsigned_abs v → u ≡ v
same_size g p q (pos m) (pos n) some_g some_q first second e = ap pos e
same_size g p q (negsuc m) (negsuc n) some_g some_q first second e = omega (arith, ints)
same_size g p q (pos m) (negsuc n) some_g some_q first second e =
    absurd (no_opposite g q (suc n) p some_g some_q (omega arith) second.multiple (subst (λ (k : ℕ). 2 * distance p q (pos k) ≤ g * q) e first.near) second.near)
same_size g p q (negsuc m) (pos n) some_g some_q first second e =
    absurd (no_opposite g q (suc m) p some_g some_q (omega arith) first.multiple (subst (λ (k : ℕ). 2 * distance p q (pos k) ≤ g * q) (sym e) second.near) first.near)

-- there is one nearest multiple
pub nearest_is_unique : NearestIsUnique
nearest_is_unique g p q u v some_g some_q first second =
    let most : unsigned_abs v ≤ unsigned_abs u = first.larger v second.multiple second.near in
    let least : unsigned_abs u ≤ unsigned_abs v = second.larger u first.multiple first.near in
    same_size g p q u v some_g some_q first second (omega arith)

-- the digits before the point are not too many
digits_before_low : (m p q : ℕ) → q ≤ p → 10 ^ digits_before m p q * q ≤ 10 * p
unfolding digits_before
digits_before_low zero p q h = omega arith
digits_before_low (suc m) p q h =
    let rest = digits_before_low m p q h in
    elim (cases_lt p (10 ^ m * q)) [
      | inl lt ↦ grind (arith, nat_tests)
      | inr ge ↦
          let top : 10 ^ suc m * q ≤ 10 * p = omega (arith, ap (λ x. x * q) (pow-suc 10 m)) in
          grind (arith, nat_tests)
    ]

-- a number is below the power of ten that it counts
below_ten : (n : ℕ) → n < 10 ^ n
below_ten zero = omega arith
below_ten (suc n) = omega (arith, pow-suc 10 n, below_ten n)

-- a size that is not 0 has digits: q places after the point show the first one
size_has_digits : (n q : ℕ) → 0 < n → 0 < q → (a : ℕ) × (b : ℕ) × (10 ^ a * q ≤ n * 10 ^ (b + 1)) × (n * 10 ^ b < 10 ^ a * q)
size_has_digits n q some some_q =
    let N : ℕ = n * 10 ^ q in
    let least : 1 * 10 ^ q ≤ n * 10 ^ q = mul-le-mul_right (10 ^ q) some in
    let enough : q ≤ N = omega (arith, below_ten q) in
    let room : 10 ^ N * 1 ≤ 10 ^ N * q = mul-le-mul_left (10 ^ N) some_q in
    let under : N < 10 ^ N * q = omega (arith, below_ten N) in
    let low : 10 ^ digits_before N N q * q ≤ 10 * N = digits_before_low N N q enough in
    (digits_before N N q, q, omega (arith, ap (λ x. n * x) (ten_add q 1)), digits_before_high N N q under)

-- each fraction but 0 has digits
pub each_has_digits : EachHasDigits
each_has_digits p q some some_q =
    let digits = size_has_digits (unsigned_abs p) q some some_q in
    let has : HasDigits p q digits.0 digits.1 = record { low = digits.2; high = digits.3 } in
    (digits.0, digits.1, has)
