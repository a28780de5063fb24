-- SPDX-License-Identifier: Apache-2.0
-- What a column of numbers makes of a value.
use Rattle.mstore.proofs.Words.{arith, ◌≡◌, ℤ, Bool, cond, Value, Null, Int, Integer, cast}
use Rattle.sqlite.specs.Ops.{unary}

either : (b : Bool) (x : Value) → cond b x x ≡ x
either b x = grind arith

pub cast_null : cast Integer Null ≡ Null
unfolding unary
cast_null = either _ Null

pub cast_int : (n : ℤ) → cast Integer (Int n) ≡ Int n
unfolding unary
cast_int n = either _ (Int n)
