-- SPDX-License-Identifier: Apache-2.0
-- What the definition of `round_size` gives.
use Rattle.mnum.proofs.NumWords.{ℕ, zero, suc, ◌≡◌, ◌+◌, ◌*◌, ◌-◌, ◌/◌, ◌^◌, ◌<◌, ◌≤◌, ◌⊎◌, Some, None, sym, ◌∙◌, ap, subst, arith, inr, ⊎_elim, scale_le}
use Rattle.mnum.proofs.NumWords.{scale_lt, div-eq_of_lt-le, le_of_mul-le-mul_right, lt_of_mul-lt-mul_right, div-mul-le_self, lt-div-mul-add, IsFloor, ten_pos}
use Rattle.mnum.proofs.NumWords.{ten_add, ten_monotone, digits_before_le, digits_before_is, rounding_unit_is, nearest_exact, round_none, round_some}
use Rattle.mnum.proofs.NumWords.{round_up_none, digits_before, nearest, rounding_unit, round_size, mul-le-mul_right, mul_assoc, mul-lt-mul_of_pos_right}
use Rattle.mnum.proofs.NumWords.{pow-suc}
use Rattle.mnum.proofs.Scales.{half_low, half_high}

-- from one digit more than is kept
nearest_low : (g E T K h n m p q : ℕ) → g * T ≡ K * E → 0 < T → K ≡ 2 * h → m * K ≤ n + h → n * q ≤ p * T → m * (2 * (g * q)) ≤ 2 * (p * E) + g * q
nearest_low g E T K h n m p q same some even low floor =
    let scaled : m * (2 * (K * q)) * E ≤ (2 * (p * T) + K * q) * E = mul-le-mul_right E (half_low K h n m q (p * T) even low floor) in
    let one : g * T * q ≡ K * E * q = ap (λ x. x * q) same in
    let all : g * T * q * m ≡ K * E * q * m = ap (λ x. x * m) one in
    le_of_mul-le-mul_right {k = T} (omega arith) some

nearest_high : (g E T K h n m p q : ℕ) → g * T ≡ K * E → 0 < E → K ≡ 2 * h → n + h < (m + 1) * K → p * T < (n + 1) * q → 2 * (p * E) + g * q < (m + 1) * (2 * (g * q))
nearest_high g E T K h n m p q same some even high floor =
    let scaled : (2 * (p * T) + K * q) * E < (m + 1) * (2 * (K * q)) * E = mul-lt-mul_of_pos_right (half_high K h n m q (p * T) even high floor) some in
    let one : g * T * q ≡ K * E * q = ap (λ x. x * q) same in
    let all : g * T * q * m ≡ K * E * q * m = ap (λ x. x * m) one in
    lt_of_mul-lt-mul_right T (omega arith)

pub nearest_is : (z k t h n m p q : ℕ) → z + t ≡ k + 18 → 10 ^ k ≡ 2 * h → IsFloor n t p q → m * 10 ^ k ≤ n + h → n + h < (m + 1) * 10 ^ k → nearest (10 ^ z) (p * 10 ^ 18) q ≡ m * 10 ^ z
unfolding nearest
nearest_is z k t h n m p q e even floor low high =
    let same : 10 ^ z * 10 ^ t ≡ 10 ^ k * 10 ^ 18 = sym (ten_add z t) ∙ ap (λ n. 10 ^ n) e ∙ ten_add k 18 in
    ap (λ x. x * 10 ^ z)
    (div-eq_of_lt-le {k = m} (2 * (10 ^ z * q)) {m = 2 * (p * 10 ^ 18) + 10 ^ z * q}
    (nearest_low (10 ^ z) (10 ^ 18) (10 ^ t) (10 ^ k) h n m p q same (ten_pos t) even low floor.low)
    (nearest_high (10 ^ z) (10 ^ 18) (10 ^ t) (10 ^ k) h n m p q same (ten_pos 18) even high floor.high))

-- a fraction below one place after its digits
pub below_places : (a b t n p q : ℕ) → a + t ≡ b + 18 → IsFloor n t p q → n < 10 ^ b → p * 10 ^ 18 < 10 ^ a * q
below_places a b t n p q e floor h =
    let more : (n + 1) * q ≤ 10 ^ b * q = mul-le-mul_right q (omega arith) in
    scale_lt a b t p q e (omega (arith, floor.high))

pub above_places : (a b t n p q : ℕ) → a + t ≡ b + 18 → IsFloor n t p q → 10 ^ b ≤ n → 10 ^ a * q ≤ p * 10 ^ 18
above_places a b t n p q e floor h =
    let more : 10 ^ b * q ≤ n * q = mul-le-mul_right q h in
    scale_le a b t p q e (omega (arith, floor.low))

pub rounding_unit_drops : (kept z k t n p q : ℕ) → 0 < kept → 0 < q → z + t ≡ k + 18 → 0 < k → kept + z ≤ 36 → IsFloor n t p q → ((z ≡ 0) ⊎ (10 ^ (kept + k - 1) ≤ n)) → n < 10 ^ (kept + k) → rounding_unit kept (p * 10 ^ 18) q ≡ 10 ^ z
unfolding rounding_unit
rounding_unit_drops kept z k t n p q some some_q e some_k room floor low high =
    let under : p * 10 ^ 18 < 10 ^ (kept + z) * q = below_places (kept + z) (kept + k) t n p q (omega arith) floor high in
    let exponent : digits_before 36 (p * 10 ^ 18) q - kept ≡ z =
    ⊎_elim
    (λ (none : z ≡ 0). omega (arith, digits_before_le 36 (kept + z) (p * 10 ^ 18) q under))
    (λ (enough : 10 ^ (kept + k - 1) ≤ n).
    let over : 10 ^ (kept + z - 1) * q ≤ p * 10 ^ 18 = above_places (kept + z - 1) (kept + k - 1) t n p q (omega arith) floor enough in
    omega (arith, digits_before_is 36 (kept + z) (p * 10 ^ 18) q room (inr over) under))
    low in
    ap (λ x. 10 ^ x) exponent

-- a fraction whose last digits are dropped
pub record Drops (kept z k t n m p q : ℕ) : Type 0 where
  pub some_kept : 0 < kept
  pub some_q : 0 < q
  pub scale : z + t ≡ k + 18
  pub some_k : 0 < k
  pub room : kept + z ≤ 36
  pub floor : IsFloor n t p q
  pub low : (z ≡ 0) ⊎ (10 ^ (kept + k - 1) ≤ n)
  pub high : n < 10 ^ (kept + k)
  pub is : m ≡ (n + 10 ^ k / 2) / 10 ^ k

pub ten_even : (k : ℕ) → 0 < k → 10 ^ k ≡ 2 * (10 ^ k / 2)
ten_even zero h = absurd (omega arith)
ten_even (suc k) h = omega (arith, pow-suc 10 k)

pub drops_nearest : (kept z k t n m p q : ℕ) → Drops kept z k t n m p q → nearest (rounding_unit kept (p * 10 ^ 18) q) (p * 10 ^ 18) q ≡ m * 10 ^ z
drops_nearest kept z k t n m p q d =
    let pos : 0 < 10 ^ k = ten_pos k in
    ap (λ g. nearest g (p * 10 ^ 18) q) (rounding_unit_drops kept z k t n p q d.some_kept d.some_q d.scale d.some_k d.room d.floor d.low d.high)
    ∙ nearest_is z k t (10 ^ k / 2) n m p q d.scale (ten_even k d.some_k) d.floor
    (subst (λ (x : ℕ). x * 10 ^ k ≤ n + 10 ^ k / 2) (sym d.is) (div-mul-le_self (n + 10 ^ k / 2) (10 ^ k)))
    (subst (λ (x : ℕ). n + 10 ^ k / 2 < (x + 1) * 10 ^ k) (sym d.is) (omega (arith, lt-div-mul-add {a = n + 10 ^ k / 2} {b = 10 ^ k} pos)))

drops_below : (kept z k t n m p q : ℕ) → Drops kept z k t n m p q → p < 10 ^ 18 * q
drops_below kept z k t n m p q d =
    omega (arith, below_places (kept + z) (kept + k) t n p q (omega (arith, d.scale)) d.floor d.high, ten_monotone (kept + z) 36 q d.room)

pub drops_some : (kept z k t n m p q : ℕ) → Drops kept z k t n m p q → m * 10 ^ z < 10 ^ 36 → round_size kept p q ≡ Some (m * 10 ^ z)
drops_some kept z k t n m p q d h = round_some kept p q (m * 10 ^ z) (drops_below kept z k t n m p q d) (drops_nearest kept z k t n m p q d) h

pub drops_none : (kept z k t n m p q : ℕ) → Drops kept z k t n m p q → 10 ^ 36 ≤ m * 10 ^ z → round_size kept p q ≡ None
drops_none kept z k t n m p q d h = round_up_none kept p q (m * 10 ^ z) (drops_nearest kept z k t n m p q d) h

sum_to : (a b : ℕ) → a ≤ b → a + (b - a) ≡ b
sum_to a b h = omega arith

sum_back : (a b : ℕ) → a ≤ b → b - a + a ≡ b
sum_back a b h = omega arith

-- a fraction of which nothing is dropped
pub exact_some : (kept t n p q : ℕ) → kept ≤ 18 → t ≤ 18 → 0 < q → n < 10 ^ kept → n * q ≡ p * 10 ^ t → round_size kept p q ≡ Some (n * 10 ^ (18 - t))
exact_some kept t n p q few near some small e =
    let units : ℕ = 10 ^ (18 - t) in
    let D : ℕ = digits_before 36 (p * 10 ^ 18) q - kept in
    let c : ℕ = n * 10 ^ (18 - t - D) in
    let whole : 10 ^ t * units ≡ 10 ^ 18 = sym (ten_add t (18 - t)) ∙ ap (λ x. 10 ^ x) (sum_to t 18 near) in
    let floor : IsFloor n t p q = record { low = omega arith; high = omega arith } in
    let under : p * 10 ^ 18 < 10 ^ (kept + (18 - t)) * q = below_places (kept + (18 - t)) kept t n p q (omega arith) floor small in
    let exponent : D ≤ 18 - t = omega (arith, digits_before_le 36 (kept + (18 - t)) (p * 10 ^ 18) q under) in
    let parts : 10 ^ (18 - t - D) * 10 ^ D ≡ units = sym (ten_add (18 - t - D) D) ∙ ap (λ x. 10 ^ x) (sum_back D (18 - t) exponent) in
    let value : c * 10 ^ D ≡ n * units = mul_assoc n (10 ^ (18 - t - D)) (10 ^ D) ∙ ap (λ x. n * x) parts in
    let scaled : p * 10 ^ 18 ≡ n * units * q =
    ap (λ x. p * x) (sym whole) ∙ omega (arith, ap (λ x. x * units) e) in
    let nearest_eq : nearest (10 ^ D) (p * 10 ^ 18) q ≡ n * units =
    nearest_exact (10 ^ D) c (p * 10 ^ 18) q (ten_pos D) some (scaled ∙ ap (λ x. x * q) (sym value)) ∙ value in
    let few_units : n * units < 10 ^ 36 =
    omega (arith, mul-lt-mul_of_pos_right {m = n} {n = 10 ^ kept} {k = units} small (ten_pos (18 - t)), ten_monotone kept 18 units few, ten_monotone (18 - t) 18 (10 ^ 18) (omega arith)) in
    let less : p < 10 ^ 18 * q = omega (arith, under, ten_monotone (kept + (18 - t)) 36 q (omega arith)) in
    let stepped : nearest (rounding_unit kept (p * 10 ^ 18) q) (p * 10 ^ 18) q ≡ n * units = ap (λ g. nearest g (p * 10 ^ 18) q) (rounding_unit_is kept (p * 10 ^ 18) q) ∙ nearest_eq in
    round_some kept p q (n * units) less stepped few_units

-- a fraction that is too large
pub over_none : (kept k t n p q : ℕ) → t + 18 < kept + k → IsFloor n t p q → 10 ^ (kept + k - 1) ≤ n → round_size kept p q ≡ None
over_none kept k t n p q far floor h =
    let over : 10 ^ (kept + k + 17 - t) * q ≤ p * 10 ^ 18 = above_places (kept + k + 17 - t) (kept + k - 1) t n p q (omega arith) floor h in
    round_none kept p q (omega (arith, over, ten_monotone 36 (kept + k + 17 - t) q (omega arith)))
