-- SPDX-License-Identifier: Apache-2.0
-- Variables: the checks of a reference, and what is asked of the place that it names.
--
-- Restates "Local variable name lvn", "Global variable name gvn", "$DATA", "$GET", "$NAME", "$ORDER", "$QUERY", "$IO", "$JOB", "$PRINCIPAL", "$QUIT",
-- "$STORAGE", "$TEST", "$X" and "$Y" of ISO/IEC 11756:1999, and what "LOCK" says of an nref. A reference is checked once all its subscripts are
-- evaluated. $INCREMENT is not in the standard: it is GT.M's.
use Rattle.std.specs.Prelude.{ℕ, ◌+◌, ◌*◌, ◌^◌, ℤ, pos, negsuc, Bool, true, false, cond, ◌&&◌, nat_le, nat_lt, List, [], ◌∷◌, ◌++◌, length, take, Option, Some}
use Rattle.std.specs.Prelude.{None}
use Rattle.std.specs.Prelude.{unwrap_or, slice_get}
use Rattle.std.specs.Ordering.{int_eq}
use Rattle.mspec.specs.Access.{Mode, Read, Write}
use Rattle.mspec.specs.LockConflict.{LockName}
use Rattle.mspec.specs.Number.{sum_of}
use Rattle.mspec.specs.Trees.{Direction, Forward, Backward, front, text_eq}
use Rattle.mspec.specs.TextFunctions.{max_text, made}
use Rattle.mspec.specs.Scopes.{is_value, is_above, next_subscript, next_node, killed}
use Rattle.mspec.specs.Subscripts.{is_account_name, are_subscripts, are_order_subscripts}
use Rattle.mspec.specs.Interpretations.{truth_text}
use Rattle.mspec.specs.Code.{M1, M7, Zarg, Zgrant, Zlong, Zsub, Zsyntax}
use Rattle.mspec.specs.Plan.{May, Value, Status, Neighbour, Following, Put, Kill}
use Rattle.mspec.specs.Act.{Text, Node, Act, ◌>>=◌, ◌>>◌, give, give_some, fail, unless, ask, get_local, set_local, with_locals, of_locals, value_of}
use Rattle.mspec.specs.Act.{terminal_is, test_is, cursor_is, naked_is, set_naked}
use Rattle.mgrammar.specs.Specials.{SpecialTree, test_special, io_special, job_special, principal_special, storage_special, column_special, row_special}
use Rattle.mgrammar.specs.Specials.{quit_special}
use Rattle.mgrammar.specs.Functions.{VariableFunctionTree, data_function, get_function, increment_function, name_function, order_function, FunctionTree}
use Rattle.mgrammar.specs.Functions.{query_function, of_values, of_variable, of_choices}
use Rattle.mgrammar.specs.NameValues.{subscripts_text, global_text}
use Rattle.mmeaning.specs.Operators.{as_number, as_text, outcome}
use Rattle.mmeaning.specs.Functions.{whole_text, as_whole, whole_at}

-- ---- references

-- a reference with everything evaluated that it has to evaluate: to a local, to a global of some account, or to one beside the node that
-- was referred to last
pub data Evaluated : Type 0 where
  of_local : Text → List Text → Evaluated
  of_global : Node → Evaluated
  of_naked : List Text → Evaluated

abbrev pub subscripts_of : Evaluated → List Text
subscripts_of (of_local name xs) = xs
subscripts_of (of_global n) = n.subscripts
subscripts_of (of_naked xs) = xs

-- with these subscripts in their place
abbrev pub with_subscripts : List Text → Evaluated → Evaluated
with_subscripts xs (of_local name old) = of_local name xs
with_subscripts xs (of_global n) = of_global (record n { subscripts = xs })
with_subscripts xs (of_naked old) = of_naked xs

-- and with these after its own
abbrev pub with_more : List Text → Evaluated → Evaluated
with_more xs v = with_subscripts (subscripts_of v ++ xs) v

-- one that the checks let through
pub data Place : Type 0 where
  at_local : Text → List Text → Place
  at_node : Node → Place

-- what a place is wanted for
pub data Use : Type 0 where
  reading : Use
  ordering : Use
  querying : Use
  writing : Use

-- what an account has to be allowed to do for that
abbrev pub mode_of : Use → Mode
mode_of reading = Read
mode_of ordering = Read
mode_of querying = Read
mode_of writing = Write

-- $ORDER and $QUERY take an empty last subscript; if there is none at all $ORDER is refused with a code of its own
abbrev pub may_be_ordered : List Text → Bool
may_be_ordered [] = true
may_be_ordered (x ∷ xs) = are_order_subscripts (x ∷ xs)

abbrev pub some_subscript : List Text → Act (Unit {0})
some_subscript [] = fail Zarg
some_subscript (x ∷ xs) = give tt

-- refused if there are too many subscripts, or if one is too long or empty
abbrev pub checked : Use → List Text → Act (Unit {0})
checked reading xs = unless Zsub (are_subscripts xs)
checked ordering xs = unless Zsub (may_be_ordered xs) >> some_subscript xs
checked querying xs = unless Zsub (may_be_ordered xs)
checked writing xs = unless Zsub (are_subscripts xs)

-- the node whose subscripts are those of the last one, with these in the place of its last subscript, which it must have
abbrev pub replaced : List Text → Option Node → Act Node
replaced xs None = fail M1
replaced xs (Some n) = unless M1 (nat_lt 0 (length n.subscripts)) >> give (record n { subscripts = front n.subscripts ++ xs })

-- of the node that was referred to last
abbrev pub beside : List Text → Act Node
beside xs = do
  last ← naked_is
  replaced xs last

-- whether the line's account may use a global in this way; what is no account's name is refused like an account that grants nothing,
-- even if it is the account's own, which no account has by a document of settings
abbrev pub allowed : Mode → Node → Act (Unit {0})
allowed mode n = do
  is_let ← ask (May n.account n.name mode)
  unless Zgrant (is_account_name n.account && is_let)

-- a node that is let through is the one that was referred to last, even if it then turns out to have no text
abbrev pub node_place : Use → Node → Act Place
node_place u n = do
  allowed (mode_of u) n
  checked u n.subscripts
  set_naked (Some n)
  give (at_node n)

abbrev pub resolve : Use → Evaluated → Act Place
resolve u (of_local name xs) = checked u xs >> give (at_local name xs)
resolve u (of_global n) = node_place u n
resolve u (of_naked xs) = do
  n ← beside xs
  node_place u n

-- The lock that a reference names. The node that was referred to last stays the same, and a naked reference has no name.
abbrev pub named_lock : Text → Evaluated → Act LockName
named_lock me (of_local name xs) = do
  checked writing xs
  give (record { global = false; node = record { account = me; name = name; subscripts = xs } })
named_lock me (of_global n) = do
  allowed Write n
  checked writing n.subscripts
  give (record { global = true; node = n })
named_lock me (of_naked xs) = fail Zsyntax

-- ---- places

abbrev pub read_at : Place → Act Text
read_at (at_local name xs) = get_local name xs
read_at (at_node n) = ask (Value n) >>= give_some M7

abbrev pub found_at : Place → Act (Option Text)
found_at (at_local name xs) = of_locals (λ l. value_of l name xs)
found_at (at_node n) = ask (Value n)

-- the text there, or another one if there is none
abbrev pub read_or : Text → Place → Act Text
read_or other p = do
  found ← found_at p
  give (unwrap_or found other)

-- a global keeps no text that is too long; none that a line makes is, and none that a store holds, so that no line meets this case
abbrev pub put_at : Place → Text → Act (Unit {0})
put_at (at_local name xs) x = set_local name xs x
put_at (at_node n) x = unless Zlong (nat_le (length x) max_text) >> ask (Put n x)

-- without its node and what is below it
abbrev pub kill_at : Place → Act (Unit {0})
kill_at (at_local name xs) = with_locals (λ l. killed l name xs)
kill_at (at_node n) = ask (Kill n)

-- whether there is a text, and whether there is one below
abbrev pub status_at : Place → Act (Bool × Bool)
status_at (at_local name xs) = of_locals (λ l. (is_value l name xs, is_above l name xs))
status_at (at_node n) = ask (Status n)

-- the next subscript at the last place; the empty text if there is none
abbrev pub next_at : Direction → Place → Act Text
next_at d (at_local name xs) = of_locals (λ l. unwrap_or (next_subscript l d name xs) [])
next_at d (at_node n) = do
  next ← ask (Neighbour d n)
  give (unwrap_or next [])

-- ---- functions of a variable

-- $DATA: 1 if it has a text, and 10 more if a node below it has one
abbrev pub data_number : Bool × Bool → ℕ
data_number status = cond status.0 1 0 + 10 * cond status.1 1 0

-- $ORDER and $QUERY: 1 is forward, as it is if nothing is said, and -1 is backward
abbrev pub direction_of : Option Text → Act Direction
direction_of None = give Forward
direction_of (Some x) = do
  n ← as_whole x
  cond (int_eq n (pos 1)) (give Forward) (cond (int_eq n (negsuc 0)) (give Backward) (fail Zarg))

-- the first subscripts, up to this many; all if nothing is said
abbrev pub first_of : List Text → Option ℤ → Act (List Text)
first_of xs None = give xs
first_of xs (Some (pos n)) = give (take n xs)
first_of xs (Some (negsuc n)) = fail Zarg

-- a name, of what comes before its subscripts, and of the first of them
abbrev pub name_with : Text → List Text → Option ℤ → Act Text
name_with front subscripts most = do
  xs ← first_of subscripts most
  outcome (made (front ++ subscripts_text xs))

-- the environment of a node's name: none if the node is of the line's own account
abbrev pub environment_of : Text → Node → Option Text
environment_of me n = cond (text_eq n.account me) None (Some n.account)

abbrev pub node_named : Text → Option ℤ → Node → Act Text
node_named me most n = name_with (global_text (environment_of me n) n.name) n.subscripts most

-- $NAME: no check of the variable is made, and the node that was referred to last stays the same
abbrev pub named : Text → Option ℤ → Evaluated → Act Text
named me most (of_local name subscripts) = name_with name subscripts most
named me most (of_global n) = node_named me most n
named me most (of_naked xs) = do
  n ← beside xs
  node_named me most n

-- $QUERY: the name of the next node in a direction that has a text; the empty text if there is none
abbrev pub found_named : Text → Option (List Text) → Act Text
found_named front None = give []
found_named front (Some xs) = name_with front xs None

abbrev pub query_at : Text → Direction → Place → Act Text
query_at me d (at_local name xs) = do
  found ← of_locals (λ l. next_node l d name xs)
  found_named name found
query_at me d (at_node n) = do
  found ← ask (Following d n)
  found_named (global_text (environment_of me n) n.name) found

-- $INCREMENT: what is added, 1 if nothing is said
abbrev pub added_of : Option Text → Act ℤ
added_of None = give (pos (10 ^ 18))
added_of (Some x) = as_number x

-- a text as a number, with another one added
abbrev pub increased : Text → ℤ → Act Text
increased x by = do
  n ← as_number x
  as_text (sum_of n by)

-- one read and one put, with no step in between: a place that has no text counts as 0, and gets what is given
abbrev pub increment_at : ℤ → Place → Act Text
increment_at by p = do
  old ← read_or [] p
  new ← increased old by
  put_at p new
  give new

-- the variable is looked up once the number is there, for a write, which lets it be read too
abbrev pub incremented : ℤ → Evaluated → Act Text
incremented by v = do
  p ← resolve writing v
  increment_at by p

-- A function of the variable that one act gives, and of what another gives, for a line of this account: the checks of the variable come
-- between.
abbrev pub variable_function_value : Text → VariableFunctionTree → Act Evaluated → Act (List Text) → Act Text
variable_function_value me data_function reference more = do
  v ← reference
  p ← resolve reading v
  status ← status_at p
  give (whole_text (pos (data_number status)))
variable_function_value me get_function reference more = do
  v ← reference
  p ← resolve reading v
  xs ← more
  read_or (unwrap_or (slice_get xs 0) []) p
variable_function_value me increment_function reference more = do
  v ← reference
  xs ← more
  by ← added_of (slice_get xs 0)
  incremented by v
variable_function_value me name_function reference more = do
  v ← reference
  xs ← more
  most ← whole_at 0 xs
  named me most v
variable_function_value me order_function reference more = do
  v ← reference
  p ← resolve ordering v
  xs ← more
  d ← direction_of (slice_get xs 0)
  next_at d p
variable_function_value me query_function reference more = do
  v ← reference
  p ← resolve querying v
  xs ← more
  d ← direction_of (slice_get xs 0)
  query_at me d p

-- a word that names no function of a variable is in no tree of the grammar with a variable
abbrev pub referring : Text → Option FunctionTree → Act Evaluated → Act (List Text) → Act Text
referring me None reference more = fail Zsyntax
referring me (Some (of_values f least most)) reference more = fail Zsyntax
referring me (Some (of_variable f most)) reference more = variable_function_value me f reference more
referring me (Some of_choices) reference more = fail Zsyntax

-- ---- special variables

-- the number of the line's terminal, which stands for a device and for a job
abbrev pub terminal_number : Act Text
terminal_number = do
  n ← terminal_is
  give (whole_text (pos n))

-- $STORAGE is how many characters a text may have, whatever is stored; $QUIT is whether a value is wanted of the level
abbrev pub special_value : (wants_value : Bool) → Option SpecialTree → Act Text
special_value wanted None = fail Zsyntax
special_value wanted (Some test_special) = do
  b ← test_is
  give (truth_text b)
special_value wanted (Some io_special) = terminal_number
special_value wanted (Some job_special) = terminal_number
special_value wanted (Some principal_special) = terminal_number
special_value wanted (Some storage_special) = give (whole_text (pos max_text))
special_value wanted (Some column_special) = do
  c ← cursor_is
  give (whole_text (pos c.column))
special_value wanted (Some row_special) = do
  c ← cursor_is
  give (whole_text (pos c.row))
special_value wanted (Some quit_special) = give (truth_text wanted)
