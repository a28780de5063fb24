-- SPDX-License-Identifier: Apache-2.0
-- How a fraction relates to its first digits, and a division with floor to one of the sizes.
use Rattle.std.specs.Prelude.{◌≡◌, ℕ, ◌+◌, ◌-◌, ◌*◌, ◌^◌, ◌<◌, ◌≤◌, ◌⊎◌, ◌==◌, Bool, cond}

-- n is the whole part of p / q * 10 ^ places
pub record IsFloor (n places p q : ℕ) : Type 0 where
  pub low : n * q ≤ p * 10 ^ places
  pub high : p * 10 ^ places < (n + 1) * q

-- n has all of p / q, or at least one digit more than are kept
abbrev pub IsFine : ℕ → ℕ → ℕ → ℕ → ℕ → Type 0
IsFine kept n places p q = (n * q ≡ p * 10 ^ places) ⊎ ((10 ^ kept ≤ n) ⊎ (18 < places))

-- the size of the remainder of a division with floor, if a division of the sizes leaves `left`
abbrev pub floor_left : Bool → ℕ → ℕ → ℕ
floor_left same_sign left divisor = cond (left == 0) 0 (cond same_sign left (divisor - left))
