-- SPDX-License-Identifier: Apache-2.0
-- The size of a number from its first digits.
use Rattle.mnum.proofs.NumWords.{ℕ, ◌≡◌, ◌+◌, ◌*◌, ◌-◌, ◌^◌, ◌<◌, ◌≤◌, ◌⊎◌, Some, None, sym, ◌∙◌, ap, arith, inl, inr, ⊎_elim, pow-le-pow_right, IsFloor}
use Rattle.mnum.proofs.NumWords.{IsFine, IsHead, ten_pos, ten_add, round_none, round_small, round_zero, round_size, mul-le-mul_right, mul-lt-mul_of_pos_right}
use Rattle.mnum.proofs.NumWords.{mul_assoc}

-- the number with its exponent, between its first digits and the next
head_low : (n d number a : ℕ) → IsHead n d number → n * 10 ^ (d + a) ≤ number * 10 ^ a
head_low n d number a head = omega (arith, mul-le-mul_right (10 ^ a) head.low, ap (λ x. n * x) (ten_add d a))

head_high : (n d number a : ℕ) → IsHead n d number → number * 10 ^ a < (n + 1) * 10 ^ (d + a)
head_high n d number a head = omega (arith, mul-lt-mul_of_pos_right head.high (ten_pos a), ap (λ x. (n + 1) * x) (ten_add d a))

pub head_far : (kept n d number a down : ℕ) → 0 < n → IsHead n d number → down + 18 < d + a → round_size kept (number * 10 ^ a) (10 ^ down) ≡ None
head_far kept n d number a down some head far =
    let units : 10 ^ (18 + down) ≡ 10 ^ 18 * 10 ^ down = ten_add 18 down in
    let most : 10 ^ (18 + down) ≤ 10 ^ (d + a) = pow-le-pow_right {n = 10} (omega arith) {i = 18 + down} {j = d + a} (omega arith) in
    let one : 10 ^ (d + a) ≤ n * 10 ^ (d + a) = omega (arith, mul-le-mul_right (10 ^ (d + a)) some) in
    round_none kept (number * 10 ^ a) (10 ^ down) (omega (arith, head_low n d number a head))

pub head_long : (kept n d number a down : ℕ) → 0 < d → IsHead n d number → down < d + a → round_size kept (number * 10 ^ a) (10 ^ down) ≡ None
head_long kept n d number a down some head far =
    let many : 10 ^ 18 ≤ n = ⊎_elim (λ (e : d ≡ 0). absurd (omega arith)) (λ (w : 10 ^ 18 ≤ n). w) head.whole in
    let most : 10 ^ down ≤ 10 ^ (d + a) = pow-le-pow_right {n = 10} (omega arith) {i = down} {j = d + a} (omega arith) in
    let all : 10 ^ 18 * 10 ^ (d + a) ≤ n * 10 ^ (d + a) = mul-le-mul_right (10 ^ (d + a)) many in
    round_none kept (number * 10 ^ a) (10 ^ down) (omega (arith, head_low n d number a head))

pub head_small : (kept n d number a down : ℕ) → n < 10 ^ 19 → IsHead n d number → d + a + 38 < down → round_size kept (number * 10 ^ a) (10 ^ down) ≡ Some 0
head_small kept n d number a down few head far =
    let under : (n + 1) * 10 ^ (d + a) ≤ 10 ^ 19 * 10 ^ (d + a) = mul-le-mul_right (10 ^ (d + a)) (omega arith) in
    let split : 10 ^ (39 + (d + a)) ≡ 10 ^ 39 * 10 ^ (d + a) = ten_add 39 (d + a) in
    let most : 10 ^ (39 + (d + a)) ≤ 10 ^ down = pow-le-pow_right {n = 10} (omega arith) {i = 39 + (d + a)} {j = down} (omega arith) in
    round_small kept (number * 10 ^ a) (10 ^ down) (omega (arith, head_high n d number a head))

pub head_zero : (kept n d number a down : ℕ) → kept ≤ 18 → n ≡ 0 → IsHead n d number → round_size kept (number * 10 ^ a) (10 ^ down) ≡ Some 0
head_zero kept n d number a down few none head =
    let whole : d ≡ 0 = ⊎_elim (λ (e : d ≡ 0). e) (λ (w : 10 ^ 18 ≤ n). absurd (omega arith)) head.whole in
    let one : (n + 1) * 10 ^ d ≡ 1 = ap (λ x. (x + 1) * 10 ^ d) none ∙ ap (λ x. (0 + 1) * 10 ^ x) whole in
    let zero_number : number ≡ 0 = omega (arith, head.high) in
    ap (λ x. round_size kept (x * 10 ^ a) (10 ^ down)) zero_number ∙ ap (λ x. round_size kept x (10 ^ down)) (omega arith) ∙ round_zero kept (10 ^ down) (ten_pos down)

pub head_zeros : (n d number a down more : ℕ) → d ≡ 0 → IsHead n d number → more + down ≡ d + a → n * 10 ^ more * 10 ^ down ≡ number * 10 ^ a * 10 ^ 0
head_zeros n d number a down more none head e =
    let one : 10 ^ d ≡ 1 = ap (λ x. 10 ^ x) none in
    let first : n * 10 ^ d ≡ n = ap (λ x. n * x) one ∙ omega arith in
    let last : (n + 1) * 10 ^ d ≡ n + 1 = ap (λ x. (n + 1) * x) one ∙ omega arith in
    let same : number ≡ n = omega (arith, head.low, head.high) in
    mul_assoc n (10 ^ more) (10 ^ down) ∙ ap (λ x. n * x) (sym (ten_add more down) ∙ ap (λ x. 10 ^ x) (to e none)) ∙ ap (λ x. x * 10 ^ a) (sym same) ∙ omega arith
  where
    to : more + down ≡ d + a → d ≡ 0 → more + down ≡ a
    to e none = omega arith

pub head_floor : (n d number a down places : ℕ) → IsHead n d number → places + (d + a) ≡ down → IsFloor n places (number * 10 ^ a) (10 ^ down)
head_floor n d number a down places head e =
    let split : 10 ^ down ≡ 10 ^ places * 10 ^ (d + a) = ap (λ x. 10 ^ x) (sym e) ∙ ten_add places (d + a) in
    let under : n * 10 ^ (d + a) * 10 ^ places ≤ number * 10 ^ a * 10 ^ places = mul-le-mul_right (10 ^ places) (head_low n d number a head) in
    let over : number * 10 ^ a * 10 ^ places < (n + 1) * 10 ^ (d + a) * 10 ^ places = mul-lt-mul_of_pos_right (head_high n d number a head) (ten_pos places) in
    record {
      low = omega (arith, ap (λ x. n * x) split);
      high = omega (arith, ap (λ x. (n + 1) * x) split);
    }

pub head_fine : (kept n d number a down places : ℕ) → kept ≤ 18 → IsHead n d number → places + (d + a) ≡ down → IsFine kept n places (number * 10 ^ a) (10 ^ down)
head_fine kept n d number a down places few head e =
    ⊎_elim
    (λ (none : d ≡ 0).
    let one : 10 ^ d ≡ 1 = ap (λ x. 10 ^ x) none in
    let first : n * 10 ^ d ≡ n = ap (λ x. n * x) one ∙ omega arith in
    let last : (n + 1) * 10 ^ d ≡ n + 1 = ap (λ x. (n + 1) * x) one ∙ omega arith in
    let same : number ≡ n = omega (arith, head.low, head.high) in
    inl (ap (λ x. n * x) (ap (λ x. 10 ^ x) (to none) ∙ ten_add a places) ∙ sym (mul_assoc n (10 ^ a) (10 ^ places)) ∙ ap (λ x. x * 10 ^ a * 10 ^ places) (sym same)))
    (λ (many : 10 ^ 18 ≤ n). inr (inl (omega (arith, many, pow-le-pow_right {n = 10} (omega arith) {i = kept} {j = 18} few))))
    head.whole
  where
    to : d ≡ 0 → down ≡ a + places
    to none = omega arith

-- a number to be scaled, with capped powers of ten
pub record Scaling (n d number raise lower a down : ℕ) : Type 0 where
  pub few : n < 10 ^ 19
  pub short : d < 2 ^ 64
  pub one_way : (raise ≡ 0) ⊎ (lower < 2 ^ 64)
  pub head : IsHead n d number
  pub up : (raise ≡ a) ⊎ ((10 ^ 20 ≤ raise) × (10 ^ 20 ≤ a))
  pub under : (lower ≡ down) ⊎ ((10 ^ 20 ≤ lower) × (10 ^ 20 ≤ down))

pub scaled_none : (kept n d number raise lower a down : ℕ) → Scaling n d number raise lower a down → 0 < n → lower < d + raise → ((0 < d) ⊎ (18 < d + raise - lower)) → round_size kept (number * 10 ^ a) (10 ^ down) ≡ None
scaled_none kept n d number raise lower a down s some far w =
    let exact : lower ≡ down = omega arith in
    ⊎_elim
    (λ (long : 0 < d). head_long kept n d number a down long s.head (omega arith))
    (λ (much : 18 < d + raise - lower). head_far kept n d number a down some s.head (omega arith))
    w

pub scaled_zeros : (n d number raise lower a down : ℕ) → Scaling n d number raise lower a down → lower < d + raise → d ≤ 0 → d + raise - lower ≤ 18 → n * 10 ^ (d + raise - lower) * 10 ^ down ≡ number * 10 ^ a * 10 ^ 0
scaled_zeros n d number raise lower a down s far none few =
    let exact : lower ≡ down = omega arith in
    let same : raise ≡ a = omega arith in
    head_zeros n d number a down (d + raise - lower) (omega arith) s.head (omega arith)

pub scaled_small : (kept n d number raise lower a down : ℕ) → Scaling n d number raise lower a down → d + raise ≤ lower → 38 < lower - (d + raise) → round_size kept (number * 10 ^ a) (10 ^ down) ≡ Some 0
scaled_small kept n d number raise lower a down s near far =
    let same : raise ≡ a = omega arith in
    head_small kept n d number a down s.few s.head (omega arith)

pub scaled_places : (n d number raise lower a down : ℕ) → Scaling n d number raise lower a down → d + raise ≤ lower → lower - (d + raise) ≤ 38 → lower - (d + raise) + (d + a) ≡ down
scaled_places n d number raise lower a down s near few =
    let same : raise ≡ a = omega arith in
    let exact : lower ≡ down = omega arith in
    omega arith
