-- SPDX-License-Identifier: Apache-2.0
-- What calls of the evaluation do for $QUERY, and the places of which it may be asked.
use Rattle.std.specs.Prelude.{List, [], slice_get}
use Rattle.mspec.specs.Act.{Text, Act, ◌>>=◌}
use Rattle.mspec.specs.KeyBytes.{IsAccountName}
use Rattle.mspec.specs.Trees.{AreQuerySubscripts}
use Rattle.mgrammar.specs.Grammar.{ExprsTree, ReferenceTree}
use Rattle.mgrammar.specs.Functions.{query_function}
use Rattle.mmeaning.specs.Expression.{Inside, values, evaluated}
use Rattle.mmeaning.specs.Variables.{Evaluated, Place, querying, resolve, direction_of, query_at, variable_function_value}
use Rattle.meval.specs.declared.place.Walk.{Walk}
use Rattle.meval.specs.declared.place.Walk.TheVariants as walk

-- $QUERY may be asked of it
abbrev pub IsSearch : Walk → Type 0
IsSearch (walk.Local name values) = AreQuerySubscripts values
IsSearch (walk.Node node) = IsAccountName node.account × AreQuerySubscripts node.subscripts

-- what it does with a place, and with the values after the variable
abbrev pub query_by : List Text → Inside → Place → Act Text
query_by xs i p = do
  d ← direction_of (slice_get xs 0)
  query_at i.account d p

-- what it does with a variable that has its place, and with one that does not have it yet
abbrev pub query_from : ExprsTree → Inside → Place → Act Text
query_from more i p = do
  xs ← values i [] more
  d ← direction_of (slice_get xs 0)
  query_at i.account d p

abbrev pub query_behind : ExprsTree → Inside → Evaluated → Act Text
query_behind more i v = resolve querying v >>= query_from more i

-- $QUERY of a variable
abbrev pub query_of : Inside → ReferenceTree → ExprsTree → Act Text
query_of i r more = variable_function_value i.account query_function (evaluated i r) (values i [] more)
