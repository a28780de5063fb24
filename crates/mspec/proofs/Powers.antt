-- SPDX-License-Identifier: Apache-2.0
-- Powers of ten.
use Rattle.mspec.proofs.SpecWords.{ℕ, ◌≡◌, ◌+◌, ◌*◌, ◌^◌, ◌<◌, ◌≤◌, arith, pow-add, one-le-pow, mul-le-mul_right, pow-le-pow_right}

pub ten_pos : (k : ℕ) → 0 < 10 ^ k
ten_pos k = one-le-pow k 10 (omega arith)

pub ten_add : (i j : ℕ) → 10 ^ (i + j) ≡ 10 ^ i * 10 ^ j
ten_add i j = pow-add 10 i j

pub ten_monotone : (i j q : ℕ) → i ≤ j → 10 ^ i * q ≤ 10 ^ j * q
ten_monotone i j q h = mul-le-mul_right q (pow-le-pow_right {n = 10} (omega arith) h)
