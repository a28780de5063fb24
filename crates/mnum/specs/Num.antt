-- SPDX-License-Identifier: Apache-2.0
-- A number as a whole count of units of 10 ^ -18.
use Rattle.std.specs.Prelude.{◌-◌, ◌*◌, ◌^◌, ℤ}
use Rattle.mspec.specs.Number.{signed}
use Rattle.mnum.specs.declared.num.Num.{Num}

abbrev pub units : Num → ℤ
units n = signed n.negative (n.digits * 10 ^ (18 - n.places))
