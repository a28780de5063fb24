-- SPDX-License-Identifier: Apache-2.0
-- What IF and HANG do with a value: the truth of a condition of IF is then the value of $TEST, and what HANG has is a number.
use Rattle.std.specs.Prelude.{Bool}
use Rattle.mspec.specs.Act.{Text, Act, ◌>>=◌, ◌>>◌, give, set_test}
use Rattle.mgrammar.specs.Grammar.{ExprTree}
use Rattle.mmeaning.specs.Operators.{as_number, as_truth}
use Rattle.mmeaning.specs.Expression.{Inside, value}

-- of a value
abbrev pub truth_set : Text → Act Bool
truth_set x = do
  b ← as_truth x
  set_test b
  give b

abbrev pub tested : Inside → ExprTree → Act Bool
tested i e = do
  x ← value i e
  truth_set x

abbrev pub hung : Text → Act (Unit {0})
hung x = as_number x >> give tt
