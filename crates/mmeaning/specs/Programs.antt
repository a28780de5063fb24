-- SPDX-License-Identifier: Apache-2.0
-- Programs: an argument with a call of a function in it, as small steps over a stack.
--
-- What stands before a call and what comes after it are apart here, so that a function's level can open in between. A step does what the
-- meaning of expressions and lines does at its place, and costs what that costs. What has no call is one step.
use Rattle.std.specs.Prelude.{ℕ, zero, suc, ℤ, pos, Bool, true, false, not, cond, List, [], ◌∷◌, ◌++◌, length, slice_get, unwrap_or, Option, Some, None}
use Rattle.std.specs.Prelude.{is_some}
use Rattle.mspec.specs.LockConflict.{LockName}
use Rattle.mspec.specs.Scopes.{Binding, valued}
use Rattle.mspec.specs.Interpretations.{truth_text}
use Rattle.mspec.specs.NumberText.{number_text}
use Rattle.mspec.specs.Code.{Code, M4, Zsyntax}
use Rattle.mspec.specs.Act.{Text, Act, ◌>>=◌, ◌>>◌, give, fail, charge, write, write_formats, test_is}
use Rattle.mgrammar.specs.Grammar.{SignTree, BinaryTree, ExprTree, expr, TailsTree, no_tails, tail, TailTree, apply, raise, matches_indirect}
use Rattle.mgrammar.specs.Grammar.{matches_not_indirect, OperandTree, operand, PrimaryTree, reference, bracket, call, select, refer, extrinsic, ReferenceTree}
use Rattle.mgrammar.specs.Grammar.{local, global, naked, indirect, extended, ExprsTree, no_exprs, exprs, ChoicesTree, no_choices, choice}
use Rattle.mgrammar.specs.Grammar.{EntryTree, ActualTree, value_actual, indirect_actual, ActualsTree, no_actuals, actuals, TargetTree, variable, part}
use Rattle.mgrammar.specs.Grammar.{DestinationTree, ParameterTree, once, onward, until, LockKindTree, FormTree, CommandTree}
use Rattle.mgrammar.specs.Grammar.{ArgTree, assign, formats, coded, shown, kill_one, kill_others, new_one, new_others, tested, loop, do_one, go_to, executed}
use Rattle.mgrammar.specs.Grammar.{locked, hang_for, returned, merge_one, indirect_args}
use Rattle.mgrammar.specs.Functions.{data_function, get_function, increment_function, name_function, order_function, query_function, FunctionTree}
use Rattle.mgrammar.specs.Functions.{of_variable, function_of}
use Rattle.mgrammar.specs.CallsIn.{has_call, has_call_operand, has_call_primary, has_call_destination, has_call_exprs}
use Rattle.mgrammar.specs.ProgramsIn.{in_steps, in_steps_primary, in_steps_reference, in_steps_optional, in_steps_parameter}
use Rattle.mgrammar.specs.ProgramsIn.{in_steps_arg}
use Rattle.mmeaning.specs.Operators.{as_number, as_truth, unaries, binary, raising}
use Rattle.mmeaning.specs.Functions.{whole_text, whole_at, call_value}
use Rattle.mmeaning.specs.Variables.{Evaluated, of_local, of_global, of_naked, Place, at_local, reading, ordering, writing, resolve, read_at, read_or}
use Rattle.mmeaning.specs.Variables.{put_at, status_at, next_at, kill_at, named_lock, data_number, direction_of, added_of, incremented, named}
use Rattle.mmeaning.specs.Variables.{querying, query_at, with_more}
use Rattle.mmeaning.specs.Expression.{Inside, inside, is_bare, linked_by, named_by, matches_text, tail_value, operand_value, Depth, indirected}
use Rattle.mmeaning.specs.Expression.{attached}
use Rattle.mmeaning.specs.Parameters.{bare_list, handed}
use Rattle.mmeaning.specs.Levels.{leaves}
use Rattle.mmeaning.specs.Locking as locks
use Rattle.mmeaning.specs.Merging.{merge_found}
use Rattle.mmeaning.specs.LineMeaning.{Completion, Go_on, Returns, Context, Prepared, whole, partial, all_prepared, targets, all_assigned, spaced_to}
use Rattle.mmeaning.specs.LineMeaning.{at_depth}
use Rattle.mmeaning.specs.LineMeaning.{character_written, truth_tested, where_true, entering, answer, text_executed, going, given_by}
use Rattle.mmeaning.specs.LineMeaning.{next_parameter, begin_turn}
use Rattle.mmeaning.specs.Courses.{Course, last_turn, endless, limited, is_past}

-- ---- the stack

-- a value; the values of arguments or of subscripts so far, and the numbers of a parameter of FOR; a reference, and the place that it names,
-- once that is checked for a read, or for $ORDER or for $QUERY; the targets of SET, and the names of LOCK, so far; what the actuals so far hand over,
-- with what $TEST was before them; and what a text names, with how deep that stands, below the subscripts after it
pub data Item : Type 0 where
  one_value : Text → Item
  some_values : List Text → Item
  some_numbers : List ℤ → Item
  found : Evaluated → Item
  placed : Place → Item
  walked : Place → Item
  sought : Place → Item
  made : List Prepared → Item
  some_names : List LockName → Item
  handing : Bool → List Binding → Item
  outside : Depth → Evaluated → Item

-- ---- steps

-- An operand, what is done with a value to the left, an actual, and the targets of SET, of which none has a call in it; the step that a
-- primary costs; signs, operators, and a pattern that a text is; what brings together values, and what actuals hand over; the call of a
-- function; a condition, without which the argument ends; and formats of WRITE. What makes a reference of the values of its subscripts, or
-- of the text of an `@` and the subscripts after that, which have no call; what goes one indirection deeper to those that have one, and what
-- comes back; its value, and whether it has one; its checks, where more is evaluated before its place is asked; what is then asked of that;
-- its name, which needs no check; and a number added, for which it is checked last. In $SELECT, what passes steps by: those of a value whose
-- condition is false, and those of the choices after the one that is taken. What brings together the targets of SET, if a function is called
-- in them, the names of LOCK, and the numbers of a parameter of FOR. And a code.
pub data Op : Type 0 where
  Operand : OperandTree → Op
  Tail : TailTree → Op
  Spend : Op
  Sign : List SignTree → Op
  Join : BinaryTree → Op
  Raise : Op
  Match : Op
  Match_not : Op
  Values : Op
  Add : Op
  Function : Text → Op
  Begin : Op
  Actual : ActualTree → Op
  Hand : Op
  Hand_name : Op
  Call : EntryTree → Op
  Where : Op
  Formats : List ℕ → Op
  Prepare : DestinationTree → Op
  Local : Text → Op
  Global : Text → Op
  Naked : Op
  Extended : Text → Op
  Named : ExprsTree → Op
  Deeper : Op
  Attach : Op
  Read : Op
  Data : Op
  Resolve : Op
  Get : Op
  Walk : Op
  Order : Op
  Tell_name : Op
  Increment : Op
  Seek : Op
  Query : Op
  Unless : ℕ → Op
  Pass : ℕ → Op
  Targets : Op
  Target : Op
  Part : Text → Op
  Names : Op
  Name : Op
  Numbers : Op
  Number : Op
  Refuse : Code → Op

-- what a command does in the end: SET; WRITE of a value, of a column and of a code; IF; a condition of a command; HANG; QUIT; XECUTE; DO,
-- with whether a list of actuals is written; GOTO; KILL; MERGE; LOCK, with whether there is a timeout; any that does arguments of a text;
-- nothing, which is FOR's as an argument; and the turns of a parameter of FOR, with its index, the parameters after it, and the rest of the
-- line
pub data Ending : Type 0 where
  Assign : Ending
  Show : Ending
  Tab : Ending
  Character : Ending
  Test : Ending
  Hold : Ending
  Wait : Ending
  Return : Ending
  Run : Ending
  Enter : EntryTree → (is_listed : Bool) → Ending
  Go : EntryTree → Ending
  Kill : Ending
  Merge : Ending
  Lock : LockKindTree → (is_timed : Bool) → Ending
  Indirect : FormTree → Ending
  Nothing : Ending
  Loop : Text → List ParameterTree → List CommandTree → Ending

pub record Program : Type 0 where
  pub steps : List Op
  pub ending : Ending

-- where no function is called
abbrev pub plain : Context → Inside
plain x = inside x.account x.fuel x.position.depth

-- what $DATA gives of a place
abbrev pub data_at : Place → Act Text
data_at p = do
  status ← status_at p
  give (whole_text (pos (data_number status)))

-- the stack goes on with this item on top
abbrev pub on_top : List Item → Item → Act (Option (List Item))
on_top st i = give (Some (i ∷ st))

-- the stack after a step, unless the argument ends there; no program does a step on a stack that lacks what it takes
abbrev pub step : Context → Op → List Item → Act (Option (List Item))
step x (Operand o) st = do
  v ← operand_value (plain x) o
  on_top st (one_value v)
step x (Tail t) (one_value v ∷ st) = do
  w ← tail_value (plain x) v t
  on_top st (one_value w)
step x Spend st = charge >> give (Some st)
step x (Sign signs) (one_value v ∷ st) = do
  w ← unaries signs v
  on_top st (one_value w)
step x (Join b) (one_value w ∷ one_value v ∷ st) = do
  z ← binary b v w
  on_top st (one_value z)
step x Raise (one_value w ∷ one_value v ∷ st) = do
  z ← raising v w
  on_top st (one_value z)
step x Match (one_value t ∷ one_value v ∷ st) = do
  b ← matches_text (plain x) v t
  on_top st (one_value (truth_text b))
step x Match_not (one_value t ∷ one_value v ∷ st) = do
  b ← matches_text (plain x) v t
  on_top st (one_value (truth_text (not b)))
step x Values st = on_top st (some_values [])
step x Add (one_value v ∷ some_values vs ∷ st) = on_top st (some_values (vs ++ v ∷ []))
step x (Function word) (some_values vs ∷ st) = do
  v ← call_value word vs
  on_top st (one_value v)
step x Begin st = do
  b ← test_is
  on_top st (handing b [])
step x (Actual a) (handing b bs ∷ st) = do
  h ← handed (plain x) a
  on_top st (handing b (bs ++ h ∷ []))
step x Hand (one_value v ∷ handing b bs ∷ st) = on_top st (handing b (bs ++ valued v ∷ []))
step x Hand_name (one_value v ∷ handing b bs ∷ st) = do
  h ← linked_by (plain x) v
  on_top st (handing b (bs ++ h ∷ []))
step x (Call e) (handing b bs ∷ st) = do
  v ← answer x e bs b
  on_top st (one_value v)
step x Where (one_value v ∷ st) = do
  b ← as_truth v
  give (cond b (Some st) None)
step x (Formats run) st = write_formats run >> give (Some st)
step x (Prepare d) st = do
  ps ← all_prepared (plain x) [] (targets d)
  on_top st (made ps)
step x (Local name) (some_values vs ∷ st) = on_top st (found (of_local name vs))
step x (Global name) (some_values vs ∷ st) = on_top st (found (of_global (record { account = x.account; name = name; subscripts = vs })))
step x Naked (some_values vs ∷ st) = on_top st (found (of_naked vs))
step x (Extended name) (some_values vs ∷ one_value owner ∷ st) = on_top st (found (of_global (record { account = owner; name = name; subscripts = vs })))
step x (Named subscripts) (one_value v ∷ st) = do
  r ← attached (plain x) subscripts v
  on_top st (found r)
step x Read (found r ∷ st) = do
  v ← resolve reading r >>= read_at
  on_top st (one_value v)
step x Data (found r ∷ st) = do
  v ← resolve reading r >>= data_at
  on_top st (one_value v)
step x Resolve (found r ∷ st) = do
  p ← resolve reading r
  on_top st (placed p)
step x Get (some_values vs ∷ placed p ∷ st) = do
  v ← read_or (unwrap_or (slice_get vs 0) []) p
  on_top st (one_value v)
step x Walk (found r ∷ st) = do
  p ← resolve ordering r
  on_top st (walked p)
step x Order (some_values vs ∷ walked p ∷ st) = do
  v ← direction_of (slice_get vs 0) >>= (λ d. next_at d p)
  on_top st (one_value v)
step x Tell_name (some_values vs ∷ found r ∷ st) = do
  v ← whole_at 0 vs >>= (λ most. named x.account most r)
  on_top st (one_value v)
step x Increment (some_values vs ∷ found r ∷ st) = do
  v ← added_of (slice_get vs 0) >>= (λ by. incremented by r)
  on_top st (one_value v)
step x Seek (found r ∷ st) = do
  p ← resolve querying r
  on_top st (sought p)
step x Query (some_values vs ∷ sought p ∷ st) = do
  v ← direction_of (slice_get vs 0) >>= (λ d. query_at x.account d p)
  on_top st (one_value v)
step x Targets st = on_top st (made [])
step x Target (found r ∷ made ps ∷ st) = on_top st (made (ps ++ whole r ∷ []))
step x (Part word) (some_values vs ∷ found r ∷ made ps ∷ st) = on_top st (made (ps ++ partial (function_of word) r vs ∷ []))
step x Names st = on_top st (some_names [])
step x Name (found r ∷ some_names ns ∷ st) = do
  n ← named_lock x.account r
  on_top st (some_names (ns ++ n ∷ []))
step x Numbers st = on_top st (some_numbers [])
step x Number (one_value v ∷ some_numbers ns ∷ st) = do
  n ← as_number v
  on_top st (some_numbers (ns ++ n ∷ []))
step x (Refuse c) st = fail c
step x o st = fail Zsyntax

-- whether a list of actuals is written is all that the level asks of it
abbrev pub listed : Bool → ActualsTree
listed false = no_actuals
listed true = bare_list

abbrev pub is_list : ActualsTree → Bool
is_list no_actuals = false
is_list (actuals a rest) = true

-- LOCK of names that are all evaluated, and of a timeout
abbrev pub lock_done : LockKindTree → List LockName → Option Text → Act (Unit {0})
lock_done k ns timeout = do
  b ← locks.carried k ns
  locks.told timeout b

-- how the turns of a start go on by an increment, unless it is beyond the limit
abbrev pub begun_within : ℤ → ℤ → ℤ → Option Course
begun_within a by limit = cond (is_past by a limit) None (Some (limited by limit))

-- the index of a FOR gets its first value, from what a parameter of it leaves: how its turns go on, if there is one
abbrev pub looped : Text → Item → Act (Option Course)
looped index (one_value v) = put_at (at_local index []) v >> give (Some last_turn)
looped index (some_numbers (a ∷ by ∷ [])) = put_at (at_local index []) (number_text a) >> give (Some (endless by))
looped index (some_numbers (a ∷ by ∷ limit ∷ [])) = put_at (at_local index []) (number_text a) >> give (begun_within a by limit)
looped index i = fail Zsyntax

-- these turns, or the parameters after them
abbrev pub turned : Context → Ending → Option Course → Act Completion
turned x (Loop index rest body) None = next_parameter x index body rest
turned x (Loop index rest body) (Some c) = begin_turn x (record { index = index; course = c; parameters = rest; body = body })
turned x k c = fail Zsyntax

abbrev pub ended_by : Context → Ending → List Item → Act Completion
ended_by x Assign (one_value v ∷ made ps ∷ st) = all_assigned v ps >> give Go_on
ended_by x Show (one_value v ∷ st) = write v >> give Go_on
ended_by x Tab (one_value v ∷ st) = spaced_to v >> give Go_on
ended_by x Character (one_value v ∷ st) = character_written v >> give Go_on
ended_by x Test (one_value v ∷ st) = truth_tested v
ended_by x Hold (one_value v ∷ st) = do
  b ← as_truth v
  give (where_true b)
ended_by x Wait (one_value v ∷ st) = as_number v >> give Go_on
ended_by x Return (one_value v ∷ st) = give (Returns v)
ended_by x Run (one_value v ∷ st) = text_executed x v
ended_by x (Enter e is_listed) (handing b bs ∷ st) = entering x e (listed is_listed) bs leaves
ended_by x (Go e) st = going x e
ended_by x Kill (found r ∷ st) = (resolve writing r >>= kill_at) >> give Go_on
ended_by x Merge (found source ∷ found target ∷ st) = merge_found target source >> give Go_on
ended_by x (Lock k true) (one_value v ∷ some_names ns ∷ st) = lock_done k ns (Some v) >> give Go_on
ended_by x (Lock k false) (some_names ns ∷ st) = lock_done k ns None >> give Go_on
ended_by x (Indirect f) (one_value v ∷ st) = given_by x f v
ended_by x Nothing st = give Go_on
ended_by x (Loop index rest body) (i ∷ st) = looped index i >>= turned x (Loop index rest body)
ended_by x k st = fail Zsyntax

-- ---- what a program does

abbrev pub going_on : (List Item → Act Completion) → Option (List Item) → Act Completion
going_on rest None = give Go_on
going_on rest (Some st) = rest st

-- Once this many steps are passed by. The steps are so deep, and the command ends where it stands.
abbrev pub carried_past : Context → Depth → ℕ → List Op → Ending → List Item → Act Completion
carried_past x d n [] k st = ended_by x k st
carried_past x d zero (Unless n ∷ ops) k (one_value v ∷ st) = do
  b ← as_truth v
  carried_past x d (cond b 0 n) ops k st
carried_past x d zero (Pass n ∷ ops) k st = carried_past x d n ops k st
carried_past x d zero (Deeper ∷ ops) k (one_value v ∷ st) = do
  r ← named_by (plain (at_depth x d)) v
  carried_past x (indirected d) 0 ops k (outside d r ∷ st)
carried_past x d zero (Attach ∷ ops) k (some_values vs ∷ outside c r ∷ st) = carried_past x c 0 ops k (found (with_more vs r) ∷ st)
carried_past x d zero (o ∷ ops) k st = step (at_depth x d) o st >>= going_on (carried_past x d 0 ops k)
carried_past x d (suc n) (o ∷ ops) k st = carried_past x d n ops k st

-- what is left of a program does, on this stack, if its next step is so deep
abbrev pub carried : Context → Depth → List Op → Ending → List Item → Act Completion
carried x d ops k st = carried_past x d 0 ops k st

-- ---- what is done up to where a level opens

-- how far a program comes by itself: to its end; to a call of a function that is so deep, with what is left of the program and of the stack;
-- to the level of a DO or of an XECUTE; to the arguments that a text has; or to the turns of a parameter of FOR, if there is one
pub data Pause : Type 0 where
  over : Completion → Pause
  calls : Depth → EntryTree → Bool → List Binding → List Op → List Item → Pause
  enters : EntryTree → (is_listed : Bool) → List Binding → Pause
  executes : Text → Pause
  lists : FormTree → Text → Pause
  turns : Option Course → Pause

abbrev pub end_begun : Context → Ending → List Item → Act Pause
end_begun x (Enter e is_listed) (handing b bs ∷ st) = give (enters e is_listed bs)
end_begun x Run (one_value v ∷ st) = give (executes v)
end_begun x (Indirect f) (one_value v ∷ st) = give (lists f v)
end_begun x (Loop index rest body) (i ∷ st) = do
  c ← looped index i
  give (turns c)
end_begun x k st = do
  s ← ended_by x k st
  give (over s)

abbrev pub begun_on : (List Item → Act Pause) → Option (List Item) → Act Pause
begun_on rest None = give (over Go_on)
begun_on rest (Some st) = rest st

abbrev pub begun_past : Context → Depth → ℕ → List Op → Ending → List Item → Act Pause
begun_past x d n [] k st = end_begun x k st
begun_past x d zero (Call e ∷ ops) k (handing b bs ∷ st) = give (calls d e b bs ops st)
begun_past x d zero (Unless n ∷ ops) k (one_value v ∷ st) = do
  b ← as_truth v
  begun_past x d (cond b 0 n) ops k st
begun_past x d zero (Pass n ∷ ops) k st = begun_past x d n ops k st
begun_past x d zero (Deeper ∷ ops) k (one_value v ∷ st) = do
  r ← named_by (plain (at_depth x d)) v
  begun_past x (indirected d) 0 ops k (outside d r ∷ st)
begun_past x d zero (Attach ∷ ops) k (some_values vs ∷ outside c r ∷ st) = begun_past x c 0 ops k (found (with_more vs r) ∷ st)
begun_past x d zero (o ∷ ops) k st = step (at_depth x d) o st >>= begun_on (begun_past x d 0 ops k)
begun_past x d (suc n) (o ∷ ops) k st = begun_past x d n ops k st

abbrev pub begun : Context → Depth → List Op → Ending → List Item → Act Pause
begun x d ops k st = begun_past x d 0 ops k st

-- ---- the program of a tree

abbrev pub signed : List SignTree → List Op → List Op
signed [] ops = ops
signed (s ∷ ss) ops = Sign (s ∷ ss) ∷ ops

-- A function of the variable that the one part finds, and of the values of the other: the checks of the variable come between, if it has any.
abbrev pub referred : Option FunctionTree → (List Op → List Op) → (List Op → List Op) → List Op → List Op
referred (Some (of_variable data_function most)) first more ops = first (Data ∷ ops)
referred (Some (of_variable get_function most)) first more ops = first (Resolve ∷ Values ∷ more (Get ∷ ops))
referred (Some (of_variable increment_function most)) first more ops = first (Values ∷ more (Increment ∷ ops))
referred (Some (of_variable name_function most)) first more ops = first (Values ∷ more (Tell_name ∷ ops))
referred (Some (of_variable order_function most)) first more ops = first (Walk ∷ Values ∷ more (Order ∷ ops))
referred (Some (of_variable query_function most)) first more ops = first (Seek ∷ Values ∷ more (Query ∷ ops))
referred f first more ops = Refuse Zsyntax ∷ ops

-- each before the steps that come after it
abbrev mutual
  pub of_value : ExprTree → List Op → List Op
  of_value (expr first rest) ops = of_operand first (of_tails rest ops)

  pub of_tails : TailsTree → List Op → List Op
  of_tails no_tails ops = ops
  of_tails (tail s rest) ops = of_tail s (of_tails rest ops)

  pub of_tail : TailTree → List Op → List Op
  of_tail (apply b o) ops = cond (has_call_operand o) (of_operand o (Join b ∷ ops)) (Tail (apply b o) ∷ ops)
  of_tail (raise o) ops = cond (has_call_operand o) (of_operand o (Raise ∷ ops)) (Tail (raise o) ∷ ops)
  of_tail (matches_indirect p) ops = cond (has_call_primary p) (of_primary p (Match ∷ ops)) (Tail (matches_indirect p) ∷ ops)
  of_tail (matches_not_indirect p) ops = cond (has_call_primary p) (of_primary p (Match_not ∷ ops)) (Tail (matches_not_indirect p) ∷ ops)
  of_tail s ops = Tail s ∷ ops

  pub of_operand : OperandTree → List Op → List Op
  of_operand (operand signs p) ops = cond (has_call_primary p) (of_primary p (signed signs ops)) (Operand (operand signs p) ∷ ops)

  pub of_primary : PrimaryTree → List Op → List Op
  of_primary (reference r) ops = Spend ∷ of_reference r (Read ∷ ops)
  of_primary (bracket e) ops = Spend ∷ of_value e ops
  of_primary (call word args) ops = Spend ∷ Values ∷ of_values args (Function word ∷ ops)
  of_primary (select word choices) ops = Spend ∷ of_choices choices ops
  of_primary (refer word r more) ops = Spend ∷ referred (function_of word) (of_reference r) (of_values more) ops
  of_primary (extrinsic e xs) ops = Spend ∷ Begin ∷ cond (is_bare xs) (Call e ∷ ops) (of_actuals xs (Call e ∷ ops))
  of_primary p ops = Operand (operand [] p) ∷ ops

  pub of_reference : ReferenceTree → List Op → List Op
  of_reference (local name subscripts) ops = Values ∷ of_values subscripts (Local name ∷ ops)
  of_reference (global name subscripts) ops = Values ∷ of_values subscripts (Global name ∷ ops)
  of_reference (naked subscripts) ops = Values ∷ of_values subscripts (Naked ∷ ops)
  of_reference (indirect p subscripts) ops =
      cond (has_call_exprs subscripts) (of_primary p (Deeper ∷ Values ∷ of_values subscripts (Attach ∷ ops))) (of_primary p (Named subscripts ∷ ops))
  of_reference (extended e name subscripts) ops = of_value e (Values ∷ of_values subscripts (Extended name ∷ ops))

  pub of_values : ExprsTree → List Op → List Op
  of_values no_exprs ops = ops
  of_values (exprs e rest) ops = of_value e (Add ∷ of_values rest ops)

  -- the value of a choice comes after its condition, and is passed by if that is false; the other choices are passed by after the value
  pub of_choices : ChoicesTree → List Op → List Op
  of_choices no_choices ops = Refuse M4 ∷ ops
  of_choices (choice c v rest) ops =
      of_value c (Unless (suc (length (of_value v []))) ∷ of_value v (Pass (length (of_choices rest [])) ∷ of_choices rest ops))

  pub of_actual : ActualTree → List Op → List Op
  of_actual (value_actual e) ops = cond (has_call e) (of_value e (Hand ∷ ops)) (Actual (value_actual e) ∷ ops)
  of_actual (indirect_actual p) ops = cond (has_call_primary p) (of_primary p (Hand_name ∷ ops)) (Actual (indirect_actual p) ∷ ops)
  of_actual a ops = Actual a ∷ ops

  pub of_actuals : ActualsTree → List Op → List Op
  of_actuals no_actuals ops = ops
  of_actuals (actuals a rest) ops = of_actual a (of_actuals rest ops)

abbrev pub of_target : TargetTree → List Op → List Op
of_target (variable r) ops = of_reference r (Target ∷ ops)
of_target (part word r more) ops = of_reference r (Values ∷ of_values more (Part word ∷ ops))

abbrev pub of_targets : List TargetTree → List Op → List Op
of_targets [] ops = ops
of_targets (t ∷ ts) ops = of_target t (of_targets ts ops)

abbrev pub of_destination : DestinationTree → List Op → List Op
of_destination d ops = cond (has_call_destination d) (Targets ∷ of_targets (targets d) ops) (Prepare d ∷ ops)

abbrev pub of_names : List ReferenceTree → List Op → List Op
of_names [] ops = ops
of_names (r ∷ rs) ops = of_reference r (Name ∷ of_names rs ops)

-- the value of a timeout, if there is one
abbrev pub of_timeout : Option ExprTree → List Op → List Op
of_timeout None ops = ops
of_timeout (Some e) ops = of_value e ops

-- those of a parameter of FOR, which become numbers at once, unless it is one value
abbrev pub of_parameter : ParameterTree → List Op → List Op
of_parameter (once e) ops = of_value e ops
of_parameter (onward e by) ops = Numbers ∷ of_value e (Number ∷ of_value by (Number ∷ ops))
of_parameter (until e by to) ops = Numbers ∷ of_value e (Number ∷ of_value by (Number ∷ of_value to (Number ∷ ops)))

abbrev pub of_list : ActualsTree → List Op → List Op
of_list xs ops = cond (is_bare xs) ops (of_actuals xs ops)

-- if the condition holds that an argument may have
abbrev pub of_condition : Option ExprTree → List Op → List Op
of_condition None ops = ops
of_condition (Some e) ops = of_value e (Where ∷ ops)

abbrev pub program_if : Bool → List Op → Ending → Option Program
program_if true ops k = Some (record { steps = ops; ending = k })
program_if false ops k = None

-- The program of an argument, if its calls stand where steps are. There is none for NEW, and KILL of others. That of FOR does nothing, since its
-- parameters have programs of their own.
abbrev pub program_of : ArgTree → Option Program
program_of (assign d e) = program_if (in_steps_arg (assign d e)) (of_destination d (of_value e [])) Assign
program_of (formats run None) = None
program_of (formats run (Some e)) = program_if (in_steps e) (Formats run ∷ of_value e []) Tab
program_of (coded e) = program_if (in_steps e) (of_value e []) Character
program_of (shown e) = program_if (in_steps e) (of_value e []) Show
program_of (kill_one r) = program_if (in_steps_reference r) (of_reference r []) Kill
program_of (kill_others names) = None
program_of (new_one name) = None
program_of (new_others names) = None
program_of (tested e) = program_if (in_steps e) (of_value e []) Test
program_of (loop index parameters) = program_if (in_steps_arg (loop index parameters)) [] Nothing
program_of (do_one e xs c) = program_if (in_steps_arg (do_one e xs c)) (of_condition c (Begin ∷ of_list xs [])) (Enter e (is_list xs))
program_of (go_to e c) = program_if (in_steps_optional c) (of_condition c []) (Go e)
program_of (executed e c) = program_if (in_steps_arg (executed e c)) (of_condition c (of_value e [])) Run
program_of (locked k names t) =
    program_if (in_steps_arg (locked k names t)) (Names ∷ of_names (locks.names_of names) (of_timeout t [])) (Lock k (is_some t))
program_of (hang_for e) = program_if (in_steps e) (of_value e []) Wait
program_of (returned e) = program_if (in_steps e) (of_value e []) Return
program_of (merge_one target source) =
    program_if (in_steps_arg (merge_one target source)) (of_reference target (of_reference source [])) Merge
program_of (indirect_args f p) = program_if (in_steps_primary p) (of_primary p []) (Indirect f)

-- that of a parameter of FOR, before those after it and the rest of the line
abbrev pub program_of_parameter : Text → ParameterTree → List ParameterTree → List CommandTree → Option Program
program_of_parameter index q rest body = program_if (in_steps_parameter q) (of_parameter q []) (Loop index rest body)

-- that of a command's condition, which goes on if it is true
abbrev pub program_of_condition : ExprTree → Option Program
program_of_condition e = program_if (in_steps e) (of_value e []) Hold

-- the command, after its condition
abbrev pub once_true : Act Completion → Completion → Act Completion
once_true p Go_on = p
once_true p s = give Go_on
