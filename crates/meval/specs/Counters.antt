-- SPDX-License-Identifier: Apache-2.0
-- What calls of the evaluation do for $INCREMENT.
use Rattle.std.specs.Prelude.{List, [], slice_get}
use Rattle.mspec.specs.Act.{Text, Act, ◌>>=◌}
use Rattle.mgrammar.specs.Grammar.{ExprsTree, ReferenceTree}
use Rattle.mgrammar.specs.Functions.{increment_function}
use Rattle.mmeaning.specs.Expression.{Inside, values, evaluated}
use Rattle.mmeaning.specs.Variables.{Evaluated, added_of, incremented, variable_function_value}

-- what it does with a reference, and with the values after the variable
abbrev pub increment_by : List Text → Evaluated → Act Text
increment_by xs v = do
  by ← added_of (slice_get xs 0)
  incremented by v

-- what it does with a variable that is evaluated
abbrev pub increment_behind : ExprsTree → Inside → Evaluated → Act Text
increment_behind more i v = do
  xs ← values i [] more
  increment_by xs v

-- $INCREMENT of a variable
abbrev pub increment_of : Inside → ReferenceTree → ExprsTree → Act Text
increment_of i r more = variable_function_value i.account increment_function (evaluated i r) (values i [] more)
