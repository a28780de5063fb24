-- SPDX-License-Identifier: Apache-2.0
-- What a division gives.
use Rattle.std.specs.Prelude.{◌≡◌, ◌<◌, ℤ, unsigned_abs, Option, Some, None, Result, Ok, Err}
use Rattle.mnum.specs.Num.{units}
use Rattle.mnum.specs.declared.num.Num.{Num}
use Rattle.mnum.specs.declared.num.ArithFault.{ArithFault}
use Rattle.mnum.specs.declared.num.ArithFault.TheVariants.{Zero, Over}

-- Zero exactly for a zero divisor, otherwise the rounded value, or Over exactly if it has none
abbrev pub IsOutcome : ℤ → Option ℤ → Result Num ArithFault → Type 0
IsOutcome divisor rounded (Ok n) = (0 < unsigned_abs divisor) × (rounded ≡ Some (units n))
IsOutcome divisor rounded (Err Zero) = unsigned_abs divisor ≡ 0
IsOutcome divisor rounded (Err Over) = (0 < unsigned_abs divisor) × (rounded ≡ None)

-- the same for a division that leaves its value in the place of a number
abbrev pub Leaves : ℤ → Option ℤ → Num → Result (Unit {0}) ArithFault → Type 0
Leaves divisor rounded left (Ok done) = (0 < unsigned_abs divisor) × (rounded ≡ Some (units left))
Leaves divisor rounded left (Err Zero) = unsigned_abs divisor ≡ 0
Leaves divisor rounded left (Err Over) = (0 < unsigned_abs divisor) × (rounded ≡ None)
