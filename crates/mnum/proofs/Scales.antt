-- SPDX-License-Identifier: Apache-2.0
-- Rounding half up.
use Rattle.mnum.proofs.NumWords.{ℕ, ◌≡◌, ◌+◌, ◌*◌, ◌<◌, ◌≤◌, ap, arith, mul-le-mul_left}

-- rounding half up from one digit more than is kept
pub half_low : (K h n m q X : ℕ) → K ≡ 2 * h → m * K ≤ n + h → n * q ≤ X → m * (2 * (K * q)) ≤ 2 * X + K * q
half_low K h n m q X e f g =
    let up : 2 * q * (m * K) ≤ 2 * q * (n + h) = mul-le-mul_left (2 * q) f in
    let even : K * q ≡ 2 * h * q = ap (λ n. n * q) e in
    omega arith

pub half_high : (K h n m q X : ℕ) → K ≡ 2 * h → n + h < (m + 1) * K → X < (n + 1) * q → 2 * X + K * q < (m + 1) * (2 * (K * q))
half_high K h n m q X e f g =
    let up : 2 * q * (n + h + 1) ≤ 2 * q * ((m + 1) * K) = mul-le-mul_left (2 * q) (omega arith) in
    let even : K * q ≡ 2 * h * q = ap (λ n. n * q) e in
    omega arith
