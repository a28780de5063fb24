-- SPDX-License-Identifier: Apache-2.0
-- What is found in a tree at a number is the step of the list there, whatever comes after the part.
use Rattle.std.proofs.Common.{◌≡◌, ℕ, zero, suc, ◌-◌, Bool, true, false, cond, List, [], ◌∷◌, Option, Some, None, refl, sym, ap, ◌∙◌, arith}
use Rattle.std.specs.Prelude.{◌==◌, slice_get}
use Rattle.std.proofs.Math.Dec.{eqb-suc-zero}
use Rattle.mgrammar.specs.Grammar.{SignTree, ExprTree, expr, TailsTree, no_tails, tail, TailTree, apply, matches, matches_not, raise, matches_indirect}
use Rattle.mgrammar.specs.Grammar.{matches_not_indirect, OperandTree, operand, PrimaryTree, number, text, special, reference, bracket, call, select, refer}
use Rattle.mgrammar.specs.Grammar.{extrinsic, ReferenceTree, local, global, naked, indirect, extended, ExprsTree, no_exprs, exprs, ChoicesTree}
use Rattle.mgrammar.specs.Grammar.{no_choices, choice, ActualTree, missing_actual, value_actual, name_actual, indirect_actual, ActualsTree}
use Rattle.mgrammar.specs.Grammar.{no_actuals, actuals, ArgTree, assign, formats, coded, shown, kill_one, kill_others, new_one, new_others, tested, loop}
use Rattle.mgrammar.specs.Grammar.{do_one, go_to, executed, locked, hang_for, returned, merge_one, indirect_args}
use Rattle.mgrammar.specs.Functions as functions
use Rattle.mgrammar.specs.Functions.{data_function, get_function, increment_function, name_function, order_function, query_function, FunctionTree}
use Rattle.mgrammar.specs.Functions.{of_variable, function_of}
use Rattle.mgrammar.specs.Grammar.{TargetTree, variable, part, DestinationTree, ParameterTree, once, onward, until}
use Rattle.mmeaning.specs.LineMeaning.{targets}
use Rattle.mmeaning.specs.Locking.{names_of}
use Rattle.mmeaning.specs.Programs.{Targets, Target, Part, Names, Name, Numbers, Number, of_target, of_targets, of_destination, of_names, of_timeout}
use Rattle.mprogram.specs.Found.{in_target, in_targets, in_destination, in_names, in_timeout, in_number, in_onward, in_parameter}
use Rattle.mgrammar.specs.CallsIn.{has_call_destination, has_call, has_call_operand, has_call_primary, has_call_exprs}
use Rattle.mmeaning.specs.Expression.{is_bare}
use Rattle.mmeaning.specs.Programs as programs
use Rattle.mmeaning.specs.Programs.{Op, Spend, Join, Raise, Match, Match_not, Values, Add, Function, Begin, Hand, Hand_name, Call, Where, Formats, Prepare}
use Rattle.mmeaning.specs.Programs.{Local, Global, Naked, Extended, Named, Read, Data, Resolve, Get, Walk, Order, Tell_name, Increment, Seek, Query, signed}
use Rattle.mmeaning.specs.Programs.{referred, of_value}
use Rattle.mmeaning.specs.Programs.{of_tails, of_tail, of_operand, of_primary, of_reference, of_values, of_choices, of_actual, of_actuals, of_list}
use Rattle.mprogram.specs.Wholes.{WholeTree, of_argument, of_condition, of_parameter, steps_of, steps_of_argument}
use Rattle.mmeaning.specs.Programs.{Deeper, Attach}
use Rattle.mprogram.specs.Found.{FoundTree, step, past, found_then, found_before, single, both, in_referred, passing_value, passing_choices, in_signs}
use Rattle.mprogram.specs.Found.{in_value, in_tails, in_tail, in_operand, in_primary, in_reference, in_choices, in_values, in_actual, in_actuals}
use Rattle.mprogram.specs.Found.{in_list, in_condition, in_argument, in_whole}

-- the step at this number, in a part of a list before whatever comes after it
abbrev pub Finds : (List Op → List Op) → (ℕ → FoundTree) → Type 0
Finds steps found = (at : ℕ) (rest : List Op) → slice_get (steps rest) at ≡ found_before (found at) rest

-- one part before another
then_finds : (f g : List Op → List Op) (p q : ℕ → FoundTree) → Finds f p → Finds g q → Finds (λ rest. f (g rest)) (λ at. found_then (p at) q)
then_finds f g p q one next at rest = one at (g rest) ∙ joined (p at)
  where
    joined : (r : FoundTree) → found_before r (g rest) ≡ found_before (found_then r q) rest
    joined (step o) = refl
    joined (past left) = next left rest

-- one of two parts
cond_finds : (b : Bool) (f g : List Op → List Op) (p q : ℕ → FoundTree) → Finds f p → Finds g q
    → Finds (λ rest. cond b (f rest) (g rest)) (λ at. cond b (p at) (q at))
cond_finds true f g p q one other = one
cond_finds false f g p q one other = other

none_finds : Finds (λ rest. rest) past
none_finds at rest = refl

single_finds : (o : Op) → Finds (λ rest. o ∷ rest) (single o)
single_finds o zero rest = refl
single_finds o (suc left) rest =
    let less : suc left - 1 ≡ left = omega arith in
    let later : (suc left == 0) ≡ false = eqb-suc-zero left in
    ap (λ k. slice_get rest k) (sym less) ∙ ap (λ b. found_before (cond b (step o) (past (suc left - 1))) rest) (sym later)

-- a part, and then a step
before_finds : (f : List Op → List Op) (p : ℕ → FoundTree) (o : Op) → Finds f p → Finds (λ rest. f (o ∷ rest)) (λ at. found_then (p at) (single o))
before_finds f p o one = then_finds f (λ rest. o ∷ rest) p (single o) one (single_finds o)

-- a step, and then a part
step_finds : (o : Op) (f : List Op → List Op) (p : ℕ → FoundTree) → Finds f p → Finds (λ rest. o ∷ f rest) (λ at. found_then (single o at) p)
step_finds o f p next = then_finds (λ rest. o ∷ rest) f (single o) p (single_finds o) next

both_finds : (o next : Op) → Finds (λ rest. o ∷ next ∷ rest) (both o next)
both_finds o next = before_finds (λ rest. o ∷ rest) (single o) next (single_finds o)

signs_find : (signs : List SignTree) → Finds (signed signs) (in_signs signs)
signs_find [] = none_finds
signs_find (s ∷ ss) = single_finds (programs.Sign (s ∷ ss))

-- a part, a step, another part, and one more step
apart_finds : (f g : List Op → List Op) (p q : ℕ → FoundTree) (o next last : Op) → Finds f p → Finds g q
    → Finds (λ rest. f (o ∷ next ∷ g (last ∷ rest)))
    (λ at. found_then (p at) (λ left. found_then (both o next left) (λ left. found_then (q left) (single last))))
apart_finds f g p q o next last one other =
    then_finds f (λ rest. o ∷ next ∷ g (last ∷ rest)) p (λ left. found_then (both o next left) (λ left. found_then (q left) (single last))) one
    (then_finds (λ rest. o ∷ next ∷ rest) (λ rest. g (last ∷ rest)) (both o next) (λ left. found_then (q left) (single last)) (both_finds o next)
    (before_finds g q last other))

-- subscripts or other values, and then what is made of them
subscripts_find : (f : List Op → List Op) (p : ℕ → FoundTree) (o : Op) → Finds f p
    → Finds (λ rest. Values ∷ f (o ∷ rest)) (λ at. found_then (single Values at) (λ left. found_then (p left) (single o)))
subscripts_find f p o one = step_finds Values (λ rest. f (o ∷ rest)) (λ left. found_then (p left) (single o)) (before_finds f p o one)

referred_finds : (f : Option FunctionTree) (first more : List Op → List Op) (p q : ℕ → FoundTree) → Finds first p → Finds more q
    → Finds (referred f first more) (in_referred f p q)
referred_finds None first more p q one other = single_finds _
referred_finds (Some (functions.of_values f least most)) first more p q one other = single_finds _
referred_finds (Some (of_variable data_function most)) first more p q one other = before_finds first p Data one
referred_finds (Some (of_variable get_function most)) first more p q one other =
    apart_finds first more p q Resolve Values Get one other
referred_finds (Some (of_variable increment_function most)) first more p q one other =
    then_finds first (λ rest. Values ∷ more (Increment ∷ rest)) p (λ left. found_then (single Values left) (λ left. found_then (q left) (single Increment))) one
    (subscripts_find more q Increment other)
referred_finds (Some (of_variable name_function most)) first more p q one other =
    then_finds first (λ rest. Values ∷ more (Tell_name ∷ rest)) p (λ left. found_then (single Values left) (λ left. found_then (q left) (single Tell_name))) one
    (subscripts_find more q Tell_name other)
referred_finds (Some (of_variable order_function most)) first more p q one other =
    apart_finds first more p q Walk Values Order one other
referred_finds (Some (of_variable query_function most)) first more p q one other =
    apart_finds first more p q Seek Values Query one other
referred_finds (Some functions.of_choices) first more p q one other = single_finds _

mutual
  pub value_finds : (e : ExprTree) → Finds (of_value e) (in_value e)
  value_finds (expr first rest) = then_finds (of_operand first) (of_tails rest) (in_operand first) (in_tails rest) (operand_finds first) (tails_find rest)

  tails_find : (s : TailsTree) → Finds (of_tails s) (in_tails s)
  tails_find no_tails = none_finds
  tails_find (tail s rest) = then_finds (of_tail s) (of_tails rest) (in_tail s) (in_tails rest) (tail_finds s) (tails_find rest)

  tail_finds : (s : TailTree) → Finds (of_tail s) (in_tail s)
  tail_finds (apply b o) =
      cond_finds (has_call_operand o) (λ rest. of_operand o (Join b ∷ rest)) (λ rest. programs.Tail (apply b o) ∷ rest)
      (λ at. found_then (in_operand o at) (single (Join b))) (single (programs.Tail (apply b o)))
      (before_finds (of_operand o) (in_operand o) (Join b) (operand_finds o)) (single_finds _)
  tail_finds (raise o) =
      cond_finds (has_call_operand o) (λ rest. of_operand o (Raise ∷ rest)) (λ rest. programs.Tail (raise o) ∷ rest)
      (λ at. found_then (in_operand o at) (single Raise)) (single (programs.Tail (raise o)))
      (before_finds (of_operand o) (in_operand o) Raise (operand_finds o)) (single_finds _)
  tail_finds (matches atoms) = single_finds _
  tail_finds (matches_not atoms) = single_finds _
  tail_finds (matches_indirect p) =
      cond_finds (has_call_primary p) (λ rest. of_primary p (Match ∷ rest)) (λ rest. programs.Tail (matches_indirect p) ∷ rest)
      (λ at. found_then (in_primary p at) (single Match)) (single (programs.Tail (matches_indirect p)))
      (before_finds (of_primary p) (in_primary p) Match (primary_finds p)) (single_finds _)
  tail_finds (matches_not_indirect p) =
      cond_finds (has_call_primary p) (λ rest. of_primary p (Match_not ∷ rest)) (λ rest. programs.Tail (matches_not_indirect p) ∷ rest)
      (λ at. found_then (in_primary p at) (single Match_not)) (single (programs.Tail (matches_not_indirect p)))
      (before_finds (of_primary p) (in_primary p) Match_not (primary_finds p)) (single_finds _)

  operand_finds : (o : OperandTree) → Finds (of_operand o) (in_operand o)
  operand_finds (operand signs p) =
      cond_finds (has_call_primary p) (λ rest. of_primary p (signed signs rest)) (λ rest. programs.Operand (operand signs p) ∷ rest)
      (λ at. found_then (in_primary p at) (in_signs signs)) (single (programs.Operand (operand signs p)))
      (then_finds (of_primary p) (signed signs) (in_primary p) (in_signs signs) (primary_finds p) (signs_find signs)) (single_finds _)

  primary_finds : (p : PrimaryTree) → Finds (of_primary p) (in_primary p)
  primary_finds (number literal) = single_finds _
  primary_finds (text t) = single_finds _
  primary_finds (special word) = single_finds _
  primary_finds (reference r) =
      step_finds Spend (λ rest. of_reference r (Read ∷ rest)) (λ left. found_then (in_reference r left) (single Read))
      (before_finds (of_reference r) (in_reference r) Read (reference_finds r))
  primary_finds (bracket e) = step_finds Spend (of_value e) (in_value e) (value_finds e)
  primary_finds (call word args) =
      then_finds (λ rest. Spend ∷ Values ∷ rest) (λ rest. of_values args (Function word ∷ rest)) (both Spend Values)
      (λ left. found_then (in_values args left) (single (Function word)))
      (both_finds Spend Values) (before_finds (of_values args) (in_values args) (Function word) (values_find args))
  primary_finds (select word choices) = step_finds Spend (of_choices choices) (in_choices choices) (choices_find choices)
  primary_finds (refer word r more) =
      step_finds Spend (referred (function_of word) (of_reference r) (of_values more)) (in_referred (function_of word) (in_reference r) (in_values more))
      (referred_finds (function_of word) (of_reference r) (of_values more) (in_reference r) (in_values more) (reference_finds r) (values_find more))
  primary_finds (extrinsic e xs) =
      then_finds (λ rest. Spend ∷ Begin ∷ rest) (λ rest. cond (is_bare xs) (Call e ∷ rest) (of_actuals xs (Call e ∷ rest))) (both Spend Begin)
      (λ left. found_then (cond (is_bare xs) (past left) (in_actuals xs left)) (single (Call e)))
      (both_finds Spend Begin)
      (before_finds (λ rest. cond (is_bare xs) rest (of_actuals xs rest)) (λ left. cond (is_bare xs) (past left) (in_actuals xs left)) (Call e)
      (cond_finds (is_bare xs) (λ rest. rest) (of_actuals xs) past (in_actuals xs) none_finds (actuals_find xs)))

  reference_finds : (r : ReferenceTree) → Finds (of_reference r) (in_reference r)
  reference_finds (local name subscripts) = subscripts_find (of_values subscripts) (in_values subscripts) (Local name) (values_find subscripts)
  reference_finds (global name subscripts) = subscripts_find (of_values subscripts) (in_values subscripts) (Global name) (values_find subscripts)
  reference_finds (naked subscripts) = subscripts_find (of_values subscripts) (in_values subscripts) Naked (values_find subscripts)
  reference_finds (indirect p subscripts) =
      cond_finds (has_call_exprs subscripts)
      (λ rest. of_primary p (Deeper ∷ Values ∷ of_values subscripts (Attach ∷ rest))) (λ rest. of_primary p (Named subscripts ∷ rest))
      (λ at. found_then (found_then (in_primary p at) (single Deeper)) (λ left. found_then (single Values left) (λ left.
      found_then (in_values subscripts left) (single Attach))))
      (λ at. found_then (in_primary p at) (single (Named subscripts)))
      (then_finds (λ rest. of_primary p (Deeper ∷ rest)) (λ rest. Values ∷ of_values subscripts (Attach ∷ rest))
      (λ at. found_then (in_primary p at) (single Deeper))
      (λ left. found_then (single Values left) (λ left. found_then (in_values subscripts left) (single Attach)))
      (before_finds (of_primary p) (in_primary p) Deeper (primary_finds p))
      (subscripts_find (of_values subscripts) (in_values subscripts) Attach (values_find subscripts)))
      (before_finds (of_primary p) (in_primary p) (Named subscripts) (primary_finds p))
  reference_finds (extended e name subscripts) =
      then_finds (λ rest. of_value e (Values ∷ rest)) (λ rest. of_values subscripts (Extended name ∷ rest))
      (λ at. found_then (in_value e at) (single Values)) (λ left. found_then (in_values subscripts left) (single (Extended name)))
      (before_finds (of_value e) (in_value e) Values (value_finds e))
      (before_finds (of_values subscripts) (in_values subscripts) (Extended name) (values_find subscripts))

  pub choices_find : (s : ChoicesTree) → Finds (of_choices s) (in_choices s)
  choices_find no_choices = single_finds _
  choices_find (choice c v rest) =
      then_finds (λ ops. of_value c (passing_value v ∷ of_value v (passing_choices rest ∷ ops))) (of_choices rest)
      (λ at. found_then (found_then (in_value c at) (single (passing_value v))) (λ left. found_then (in_value v left) (single (passing_choices rest))))
      (in_choices rest)
      (then_finds (λ ops. of_value c (passing_value v ∷ ops)) (λ ops. of_value v (passing_choices rest ∷ ops))
      (λ at. found_then (in_value c at) (single (passing_value v))) (λ left. found_then (in_value v left) (single (passing_choices rest)))
      (before_finds (of_value c) (in_value c) (passing_value v) (value_finds c))
      (before_finds (of_value v) (in_value v) (passing_choices rest) (value_finds v)))
      (choices_find rest)

  values_find : (es : ExprsTree) → Finds (of_values es) (in_values es)
  values_find no_exprs = none_finds
  values_find (exprs e rest) =
      then_finds (λ ops. of_value e (Add ∷ ops)) (of_values rest) (λ at. found_then (in_value e at) (single Add)) (in_values rest)
      (before_finds (of_value e) (in_value e) Add (value_finds e)) (values_find rest)

  actual_finds : (a : ActualTree) → Finds (of_actual a) (in_actual a)
  actual_finds missing_actual = single_finds _
  actual_finds (value_actual e) =
      cond_finds (has_call e) (λ rest. of_value e (Hand ∷ rest)) (λ rest. programs.Actual (value_actual e) ∷ rest)
      (λ at. found_then (in_value e at) (single Hand)) (single (programs.Actual (value_actual e)))
      (before_finds (of_value e) (in_value e) Hand (value_finds e)) (single_finds _)
  actual_finds (name_actual name) = single_finds _
  actual_finds (indirect_actual p) =
      cond_finds (has_call_primary p) (λ rest. of_primary p (Hand_name ∷ rest)) (λ rest. programs.Actual (indirect_actual p) ∷ rest)
      (λ at. found_then (in_primary p at) (single Hand_name)) (single (programs.Actual (indirect_actual p)))
      (before_finds (of_primary p) (in_primary p) Hand_name (primary_finds p)) (single_finds _)

  actuals_find : (xs : ActualsTree) → Finds (of_actuals xs) (in_actuals xs)
  actuals_find no_actuals = none_finds
  actuals_find (actuals a rest) = then_finds (of_actual a) (of_actuals rest) (in_actual a) (in_actuals rest) (actual_finds a) (actuals_find rest)

list_finds : (xs : ActualsTree) → Finds (of_list xs) (in_list xs)
list_finds xs = cond_finds (is_bare xs) (λ rest. rest) (of_actuals xs) past (in_actuals xs) none_finds (actuals_find xs)

condition_finds : (c : Option ExprTree) → Finds (programs.of_condition c) (in_condition c)
condition_finds None = none_finds
condition_finds (Some e) = before_finds (of_value e) (in_value e) Where (value_finds e)

target_finds : (t : TargetTree) → Finds (of_target t) (in_target t)
target_finds (variable r) = before_finds (of_reference r) (in_reference r) Target (reference_finds r)
target_finds (part word r more) =
    then_finds (λ rest. of_reference r (Values ∷ rest)) (λ rest. of_values more (Part word ∷ rest))
    (λ at. found_then (in_reference r at) (single Values)) (λ left. found_then (in_values more left) (single (Part word)))
    (before_finds (of_reference r) (in_reference r) Values (reference_finds r)) (before_finds (of_values more) (in_values more) (Part word) (values_find more))

targets_find : (ts : List TargetTree) → Finds (of_targets ts) (in_targets ts)
targets_find [] = none_finds
targets_find (t ∷ ts) = then_finds (of_target t) (of_targets ts) (in_target t) (in_targets ts) (target_finds t) (targets_find ts)

destination_finds : (d : DestinationTree) → Finds (of_destination d) (in_destination d)
destination_finds d =
    cond_finds (has_call_destination d) (λ rest. Targets ∷ of_targets (targets d) rest) (λ rest. Prepare d ∷ rest)
    (λ at. found_then (single Targets at) (in_targets (targets d))) (single (Prepare d))
    (step_finds Targets (of_targets (targets d)) (in_targets (targets d)) (targets_find (targets d))) (single_finds _)

names_find : (rs : List ReferenceTree) → Finds (of_names rs) (in_names rs)
names_find [] = none_finds
names_find (r ∷ rs) =
    then_finds (λ rest. of_reference r (Name ∷ rest)) (of_names rs) (λ at. found_then (in_reference r at) (single Name)) (in_names rs)
    (before_finds (of_reference r) (in_reference r) Name (reference_finds r)) (names_find rs)

timeout_finds : (t : Option ExprTree) → Finds (of_timeout t) (in_timeout t)
timeout_finds None = none_finds
timeout_finds (Some e) = value_finds e

number_finds : (e : ExprTree) → Finds (λ rest. of_value e (Number ∷ rest)) (in_number e)
number_finds e = before_finds (of_value e) (in_value e) Number (value_finds e)

onward_finds : (e by : ExprTree) → Finds (λ rest. Numbers ∷ of_value e (Number ∷ of_value by (Number ∷ rest))) (in_onward e by)
onward_finds e by =
    step_finds Numbers (λ rest. of_value e (Number ∷ of_value by (Number ∷ rest))) (λ left. found_then (in_number e left) (in_number by))
    (then_finds (λ rest. of_value e (Number ∷ rest)) (λ rest. of_value by (Number ∷ rest)) (in_number e) (in_number by) (number_finds e) (number_finds by))

parameter_finds : (q : ParameterTree) → Finds (programs.of_parameter q) (in_parameter q)
parameter_finds (once e) = value_finds e
parameter_finds (onward e by) = onward_finds e by
parameter_finds (until e by to) =
    then_finds (λ rest. Numbers ∷ of_value e (Number ∷ of_value by (Number ∷ rest))) (λ rest. of_value to (Number ∷ rest)) (in_onward e by) (in_number to)
    (onward_finds e by) (number_finds to)

argument_found : (a : ArgTree) (at : ℕ) → slice_get (steps_of_argument a) at ≡ found_before (in_argument a at) []
argument_found (assign d e) at = then_finds (of_destination d) (of_value e) (in_destination d) (in_value e) (destination_finds d) (value_finds e) at []
argument_found (formats run None) at = refl
argument_found (formats run (Some e)) at = step_finds (Formats run) (of_value e) (in_value e) (value_finds e) at []
argument_found (coded e) at = value_finds e at []
argument_found (shown e) at = value_finds e at []
argument_found (kill_one r) at = reference_finds r at []
argument_found (kill_others names) at = refl
argument_found (new_one name) at = refl
argument_found (new_others names) at = refl
argument_found (tested e) at = value_finds e at []
argument_found (loop index parameters) at = refl
argument_found (do_one e xs c) at =
    then_finds (programs.of_condition c) (λ rest. Begin ∷ of_list xs rest) (in_condition c) (λ left. found_then (single Begin left) (in_list xs))
    (condition_finds c) (step_finds Begin (of_list xs) (in_list xs) (list_finds xs)) at []
argument_found (go_to e c) at = condition_finds c at []
argument_found (executed e c) at = then_finds (programs.of_condition c) (of_value e) (in_condition c) (in_value e) (condition_finds c) (value_finds e) at []
argument_found (locked k names t) at =
    step_finds Names (λ rest. of_names (names_of names) (of_timeout t rest)) (λ left. found_then (in_names (names_of names) left) (in_timeout t))
    (then_finds (of_names (names_of names)) (of_timeout t) (in_names (names_of names)) (in_timeout t) (names_find (names_of names)) (timeout_finds t)) at []
argument_found (hang_for e) at = value_finds e at []
argument_found (returned e) at = value_finds e at []
argument_found (merge_one target source) at =
    then_finds (of_reference target) (of_reference source) (in_reference target) (in_reference source) (reference_finds target) (reference_finds source) at []
argument_found (indirect_args f p) at = primary_finds p at []

-- the step of an argument, of a condition, or of a parameter
pub whole_found : (w : WholeTree) (at : ℕ) → slice_get (steps_of w) at ≡ found_before (in_whole w at) []
whole_found (of_argument a) at = argument_found a at
whole_found (of_condition e) at = value_finds e at []
whole_found (of_parameter index q rest body) at = parameter_finds q at []
