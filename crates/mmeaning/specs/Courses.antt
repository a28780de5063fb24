-- SPDX-License-Identifier: Apache-2.0
-- How a FOR goes on after a turn.
--
-- Restates "For" of ISO/IEC 11756:1999: a limit is passed above it, or below it if the increment is below zero.
use Rattle.std.specs.Prelude.{ℤ, pos, Bool, cond}
use Rattle.std.specs.Ordering.{int_cmp, is_lt}

-- with the next parameter; by an increment, without or with a limit; or without a parameter
pub data Course : Type 0 where
  last_turn : Course
  endless : ℤ → Course
  limited : ℤ → ℤ → Course
  forever : Course

-- whether an index is beyond the limit, given this increment
abbrev pub is_past : ℤ → ℤ → ℤ → Bool
is_past by n limit = cond (is_lt (int_cmp by (pos 0))) (is_lt (int_cmp n limit)) (is_lt (int_cmp limit n))
