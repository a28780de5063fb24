-- SPDX-License-Identifier: Apache-2.0
-- What calls of the evaluation do, for acts that the meaning has inside larger ones.
use Rattle.std.specs.Prelude.{ℤ, pos, Bool, List, Option, [], slice_get, unwrap_or}
use Rattle.mspec.specs.Trees.{Direction}
use Rattle.mspec.specs.Act.{Text, Node, Act, ◌>>=◌, ◌>>◌, give, give_some}
use Rattle.mgrammar.specs.Grammar.{ExprTree, ExprsTree, OperandTree, PrimaryTree, ReferenceTree}
use Rattle.mgrammar.specs.Functions.{get_function, name_function, order_function}
use Rattle.mspec.specs.Code.{Zsyntax}
use Rattle.mgrammar.specs.IndirectTexts.{pattern_of}
use Rattle.mmeaning.specs.Operators.{as_number, as_truth, matching}
use Rattle.mmeaning.specs.Functions.{whole_text, whole_at, call_value}
use Rattle.mspec.specs.LockConflict.{LockName}
use Rattle.mmeaning.specs.Variables.{Evaluated, with_more, Place, reading, writing, ordering, resolve, named_lock, read_at, read_or, put_at, status_at, next_at}
use Rattle.mmeaning.specs.Variables.{checked, kill_at, data_number, direction_of, named, variable_function_value}
use Rattle.mmeaning.specs.Expression.{Inside, value, values, operand_value, primary_value, matches_text, evaluated, attached}

-- whether a value matches the pattern that a text is, if an indirection is free
abbrev pub matches_read : Text → Text → Act Bool
matches_read x t = do
  atoms ← give_some Zsyntax (pattern_of t)
  matching atoms x

-- whether it matches the one that a primary's text is
abbrev pub matches_act : Inside → PrimaryTree → Text → Act Bool
matches_act i p x = do
  t ← primary_value i p
  matches_text i x t

-- where one text more may be entered than here
abbrev pub one_more : Inside → Inside
one_more i = record i { find = λ d r. evaluated (record i { depth = d }) r }

-- what a reference has to evaluate here, and then the subscripts after it, for which one text more may be entered
abbrev pub through : Inside → ReferenceTree → ExprsTree → Act Evaluated
through i r subscripts = do
  v ← evaluated i r
  xs ← values (one_more i) [] subscripts
  give (with_more xs v)

-- what the variable that a text names has to evaluate, and the subscripts after it, where one text more may be entered than here
abbrev pub named_within : Inside → ExprsTree → Text → Act Evaluated
named_within i subscripts x = attached (one_more i) subscripts x

-- whether an expression is true
abbrev pub truth : Inside → ExprTree → Act Bool
truth i e = value i e >>= as_truth

-- the number of an operand
abbrev pub operand_number : Inside → OperandTree → Act ℤ
operand_number i o = operand_value i o >>= as_number

-- the number of a primary
abbrev pub primary_number : Inside → PrimaryTree → Act ℤ
primary_number i p = primary_value i p >>= as_number

-- the lock that a reference names
abbrev pub lock_name_act : Inside → ReferenceTree → Act LockName
lock_name_act i r = evaluated i r >>= named_lock i.account

-- the lock of a node whose global the account may write, or whose variable is its own
abbrev pub lock_of : Bool → Node → Act LockName
lock_of is_global n = checked writing n.subscripts >> give (record { global = is_global; node = n })

-- the place of a reference that is read at once
abbrev pub place_to_read : Inside → ReferenceTree → Act Place
place_to_read i r = evaluated i r >>= resolve reading

-- what a read, a SET, KILL and $DATA do with what is evaluated
abbrev pub read_act : Evaluated → Act Text
read_act v = resolve reading v >>= read_at

abbrev pub put_act : Evaluated → Text → Act (Unit {0})
put_act v x = do
  p ← resolve writing v
  put_at p x

abbrev pub kill_act : Evaluated → Act (Unit {0})
kill_act v = resolve writing v >>= kill_at

-- what $DATA does with a place that may be read
abbrev pub data_at : Place → Act Text
data_at p = do
  status ← status_at p
  give (whole_text (pos (data_number status)))

abbrev pub data_act : Evaluated → Act Text
data_act v = resolve reading v >>= data_at

-- what $GET does with it, and with the arguments after the variable
abbrev pub get_from : ExprsTree → Inside → Place → Act Text
get_from more i p = do
  xs ← values i [] more
  read_or (unwrap_or (slice_get xs 0) []) p

abbrev pub get_act : ExprsTree → Inside → Evaluated → Act Text
get_act more i v = resolve reading v >>= get_from more i

-- the direction of $ORDER, by the first of the arguments after the variable
abbrev pub direction_act : Inside → ExprsTree → Act Direction
direction_act i more = do
  xs ← values i [] more
  direction_of (slice_get xs 0)

-- what $ORDER does with a variable that has its place, and with one that does not have it yet
abbrev pub order_from : ExprsTree → Inside → Place → Act Text
order_from more i p = do
  xs ← values i [] more
  d ← direction_of (slice_get xs 0)
  next_at d p

abbrev pub order_behind : ExprsTree → Inside → Evaluated → Act Text
order_behind more i v = resolve ordering v >>= order_from more i

-- what $ORDER does with a place, and with the values after the variable
abbrev pub next_by : List Text → Place → Act Text
next_by xs p = do
  d ← direction_of (slice_get xs 0)
  next_at d p

-- how many subscripts $NAME is to give, and what it does with a variable that is evaluated
abbrev pub most_act : Inside → ExprsTree → Act (Option ℤ)
most_act i more = do
  xs ← values i [] more
  whole_at 0 xs

abbrev pub name_behind : ExprsTree → Inside → Evaluated → Act Text
name_behind more i v = do
  xs ← values i [] more
  most ← whole_at 0 xs
  named i.account most v

-- what $NAME does with a reference, and with the values after the variable
abbrev pub name_by : List Text → Inside → Evaluated → Act Text
name_by xs i v = do
  most ← whole_at 0 xs
  named i.account most v

-- $DATA, $GET, $NAME and $ORDER of a variable
abbrev pub data_of : Inside → ReferenceTree → Act Text
data_of i r = evaluated i r >>= data_act

abbrev pub get_of : Inside → ReferenceTree → ExprsTree → Act Text
get_of i r more = variable_function_value i.account get_function (evaluated i r) (values i [] more)

abbrev pub order_of : Inside → ReferenceTree → ExprsTree → Act Text
order_of i r more = variable_function_value i.account order_function (evaluated i r) (values i [] more)

abbrev pub name_of : Inside → ReferenceTree → ExprsTree → Act Text
name_of i r more = variable_function_value i.account name_function (evaluated i r) (values i [] more)

-- the value of a variable
abbrev pub variable_value : Inside → ReferenceTree → Act Text
variable_value i r = evaluated i r >>= read_act

-- the value of a function of values
abbrev pub call_act : Inside → Text → ExprsTree → Act Text
call_act i word args = values i [] args >>= call_value word
