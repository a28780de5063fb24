-- SPDX-License-Identifier: Apache-2.0
-- How a canonical text begins.
use Rattle.std.specs.Prelude.{ℕ, Bool, false, ◌||◌, ◌==◌, List, [], ◌∷◌}
use Rattle.mspec.specs.Literal.{is_digit}

-- with a digit, a minus sign or a point
abbrev pub starts_number : List ℕ → Bool
starts_number [] = false
starts_number (c ∷ s) = is_digit c || ((c == 45) || (c == 46))
