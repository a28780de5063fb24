-- SPDX-License-Identifier: Apache-2.0
-- The steps of a part of a tree are the same whatever comes after them.
use Rattle.mmeaning.proofs.MeaningWords.{◌≡◌, Bool, true, false, cond, List, [], ◌∷◌, ◌++◌, Option, Some, None, refl, ap, ◌∙◌, ExprTree, ExprsTree}
use Rattle.mmeaning.proofs.MeaningWords.{PrimaryTree, ReferenceTree, OperandTree, ActualsTree, expr, tail, no_tails, apply, operand, number, text, reference}
use Rattle.mmeaning.proofs.MeaningWords.{bracket, refer, local, global, naked, indirect, extended, exprs, no_exprs, no_actuals}
use Rattle.std.specs.Prelude.{suc, length}
use Rattle.mgrammar.specs.Grammar.{SignTree, special, call, select, extrinsic, TailsTree, TailTree, matches, matches_not, raise, matches_indirect}
use Rattle.mgrammar.specs.Grammar.{matches_not_indirect, ChoicesTree, no_choices, choice, ActualTree, missing_actual, value_actual, name_actual}
use Rattle.mgrammar.specs.Grammar.{indirect_actual, actuals}
use Rattle.mgrammar.specs.Functions as functions
use Rattle.mgrammar.specs.Functions.{data_function, get_function, increment_function, name_function, order_function, query_function, FunctionTree}
use Rattle.mgrammar.specs.Functions.{of_variable, function_of}
use Rattle.mgrammar.specs.CallsIn.{has_call, has_call_operand, has_call_primary, has_call_exprs}
use Rattle.mmeaning.specs.Expression.{is_bare}
use Rattle.mmeaning.specs.Programs.{Op, Tail, Operand, Join, Raise, Match, Match_not, Values, Add, Function, Begin, Actual, Hand, Hand_name, Call, Local}
use Rattle.mmeaning.specs.Programs.{Global, Naked, Extended, Named, Read, Data, Resolve, Get, Walk, Order, Unless, Pass, signed, referred, of_value}
use Rattle.mmeaning.specs.Programs.{of_tails, Tell_name, Increment, Seek, Query, of_tail, Deeper, Attach}
use Rattle.mmeaning.specs.Programs.{of_operand, of_primary, of_reference, of_values, of_choices, of_actual, of_actuals}

-- before whatever comes after it
abbrev pub Behind : (List Op → List Op) → Type 0
Behind part = (ops rest : List Op) → part (ops ++ rest) ≡ part ops ++ rest

-- one part before another
then_behind : (f g : List Op → List Op) → Behind f → Behind g → Behind (λ ops. f (g ops))
then_behind f g one next ops rest = ap f (next ops rest) ∙ one (g ops) rest

-- one of two parts
cond_behind : (b : Bool) (f g : List Op → List Op) → Behind f → Behind g → Behind (λ ops. cond b (f ops) (g ops))
cond_behind true f g one other = one
cond_behind false f g one other = other

none_behind : Behind (λ ops. ops)
none_behind ops rest = refl

single_behind : (o : Op) → Behind (λ ops. o ∷ ops)
single_behind o ops rest = refl

-- a part, and then a step
before_behind : (f : List Op → List Op) (o : Op) → Behind f → Behind (λ ops. f (o ∷ ops))
before_behind f o one = then_behind f (λ ops. o ∷ ops) one (single_behind o)

-- a step, and then a part
step_behind : (o : Op) (f : List Op → List Op) → Behind f → Behind (λ ops. o ∷ f ops)
step_behind o f next = then_behind (λ ops. o ∷ ops) f (single_behind o) next

signs_behind : (signs : List SignTree) → Behind (signed signs)
signs_behind [] = none_behind
signs_behind (s ∷ ss) = single_behind _

referred_behind : (f : Option FunctionTree) (first more : List Op → List Op) → Behind first → Behind more → Behind (referred f first more)
referred_behind None first more one next = single_behind _
referred_behind (Some (functions.of_values f least most)) first more one next = single_behind _
referred_behind (Some (of_variable data_function most)) first more one next = before_behind first Data one
referred_behind (Some (of_variable get_function most)) first more one next =
    then_behind first (λ ops. Resolve ∷ Values ∷ more (Get ∷ ops)) one
    (then_behind (λ ops. Resolve ∷ Values ∷ ops) (λ ops. more (Get ∷ ops)) (λ ops rest. refl) (before_behind more Get next))
referred_behind (Some (of_variable increment_function most)) first more one next =
    then_behind first (λ ops. Values ∷ more (Increment ∷ ops)) one (step_behind _ (λ ops. more (Increment ∷ ops)) (before_behind more Increment next))
referred_behind (Some (of_variable name_function most)) first more one next =
    then_behind first (λ ops. Values ∷ more (Tell_name ∷ ops)) one (step_behind _ (λ ops. more (Tell_name ∷ ops)) (before_behind more Tell_name next))
referred_behind (Some (of_variable order_function most)) first more one next =
    then_behind first (λ ops. Walk ∷ Values ∷ more (Order ∷ ops)) one
    (then_behind (λ ops. Walk ∷ Values ∷ ops) (λ ops. more (Order ∷ ops)) (λ ops rest. refl) (before_behind more Order next))
referred_behind (Some (of_variable query_function most)) first more one next =
    then_behind first (λ ops. Seek ∷ Values ∷ more (Query ∷ ops)) one
    (then_behind (λ ops. Seek ∷ Values ∷ ops) (λ ops. more (Query ∷ ops)) (λ ops rest. refl) (before_behind more Query next))
referred_behind (Some functions.of_choices) first more one next = single_behind _

mutual
  pub value_behind : (e : ExprTree) → Behind (of_value e)
  value_behind (expr first rest) = then_behind (of_operand first) (of_tails rest) (operand_behind first) (tails_behind rest)

  tails_behind : (s : TailsTree) → Behind (of_tails s)
  tails_behind no_tails = none_behind
  tails_behind (tail s rest) = then_behind (of_tail s) (of_tails rest) (tail_behind s) (tails_behind rest)

  tail_behind : (s : TailTree) → Behind (of_tail s)
  tail_behind (apply b o) = cond_behind (has_call_operand o) (λ ops. of_operand o (Join b ∷ ops)) (λ ops. Tail (apply b o) ∷ ops)
      (before_behind (of_operand o) (Join b) (operand_behind o)) (single_behind _)
  tail_behind (raise o) = cond_behind (has_call_operand o) (λ ops. of_operand o (Raise ∷ ops)) (λ ops. Tail (raise o) ∷ ops)
      (before_behind (of_operand o) Raise (operand_behind o)) (single_behind _)
  tail_behind (matches atoms) = single_behind _
  tail_behind (matches_not atoms) = single_behind _
  tail_behind (matches_indirect p) = cond_behind (has_call_primary p) (λ ops. of_primary p (Match ∷ ops)) (λ ops. Tail (matches_indirect p) ∷ ops)
      (before_behind (of_primary p) Match (primary_behind p)) (single_behind _)
  tail_behind (matches_not_indirect p) = cond_behind (has_call_primary p) (λ ops. of_primary p (Match_not ∷ ops)) (λ ops. Tail (matches_not_indirect p) ∷ ops)
      (before_behind (of_primary p) Match_not (primary_behind p)) (single_behind _)

  operand_behind : (o : OperandTree) → Behind (of_operand o)
  operand_behind (operand signs p) = cond_behind (has_call_primary p) (λ ops. of_primary p (signed signs ops)) (λ ops. Operand (operand signs p) ∷ ops)
      (then_behind (of_primary p) (signed signs) (primary_behind p) (signs_behind signs)) (single_behind _)

  primary_behind : (p : PrimaryTree) → Behind (of_primary p)
  primary_behind (number literal) = single_behind _
  primary_behind (text t) = single_behind _
  primary_behind (special word) = single_behind _
  primary_behind (reference r) =
      step_behind _ (λ ops. of_reference r (Read ∷ ops)) (before_behind (of_reference r) Read (reference_behind r))
  primary_behind (bracket e) = step_behind _ (of_value e) (value_behind e)
  primary_behind (call word args) =
      step_behind _ (λ ops. Values ∷ of_values args (Function word ∷ ops))
      (step_behind _ (λ ops. of_values args (Function word ∷ ops)) (before_behind (of_values args) (Function word) (values_behind args)))
  primary_behind (select word choices) = step_behind _ (of_choices choices) (choices_behind choices)
  primary_behind (refer word r more) =
      step_behind _ (referred (function_of word) (of_reference r) (of_values more))
      (referred_behind (function_of word) (of_reference r) (of_values more) (reference_behind r) (values_behind more))
  primary_behind (extrinsic e xs) =
      step_behind _ (λ ops. Begin ∷ cond (is_bare xs) (Call e ∷ ops) (of_actuals xs (Call e ∷ ops)))
      (step_behind _ (λ ops. cond (is_bare xs) (Call e ∷ ops) (of_actuals xs (Call e ∷ ops)))
      (cond_behind (is_bare xs) (λ ops. Call e ∷ ops) (λ ops. of_actuals xs (Call e ∷ ops)) (single_behind _)
      (before_behind (of_actuals xs) (Call e) (actuals_behind xs))))

  pub reference_behind : (r : ReferenceTree) → Behind (of_reference r)
  reference_behind (local name subscripts) = step_behind _ (λ ops. of_values subscripts (Local name ∷ ops))
      (before_behind (of_values subscripts) (Local name) (values_behind subscripts))
  reference_behind (global name subscripts) = step_behind _ (λ ops. of_values subscripts (Global name ∷ ops))
      (before_behind (of_values subscripts) (Global name) (values_behind subscripts))
  reference_behind (naked subscripts) = step_behind _ (λ ops. of_values subscripts (Naked ∷ ops))
      (before_behind (of_values subscripts) Naked (values_behind subscripts))
  reference_behind (indirect p subscripts) =
      cond_behind (has_call_exprs subscripts)
      (λ ops. of_primary p (Deeper ∷ Values ∷ of_values subscripts (Attach ∷ ops))) (λ ops. of_primary p (Named subscripts ∷ ops))
      (then_behind (of_primary p) (λ ops. Deeper ∷ Values ∷ of_values subscripts (Attach ∷ ops)) (primary_behind p)
      (step_behind _ (λ ops. Values ∷ of_values subscripts (Attach ∷ ops))
      (step_behind _ (λ ops. of_values subscripts (Attach ∷ ops)) (before_behind (of_values subscripts) Attach (values_behind subscripts)))))
      (before_behind (of_primary p) (Named subscripts) (primary_behind p))
  reference_behind (extended e name subscripts) =
      then_behind (of_value e) (λ ops. Values ∷ of_values subscripts (Extended name ∷ ops)) (value_behind e)
      (step_behind _ (λ ops. of_values subscripts (Extended name ∷ ops)) (before_behind (of_values subscripts) (Extended name) (values_behind subscripts)))

  pub values_behind : (es : ExprsTree) → Behind (of_values es)
  values_behind no_exprs = none_behind
  values_behind (exprs e rest) =
      then_behind (of_value e) (λ ops. Add ∷ of_values rest ops) (value_behind e) (step_behind _ (of_values rest) (values_behind rest))

  pub choices_behind : (s : ChoicesTree) → Behind (of_choices s)
  choices_behind no_choices = single_behind _
  choices_behind (choice c v rest) =
      then_behind (of_value c) (λ ops. Unless (suc (length (of_value v []))) ∷ of_value v (Pass (length (of_choices rest [])) ∷ of_choices rest ops))
      (value_behind c)
      (step_behind _ (λ ops. of_value v (Pass (length (of_choices rest [])) ∷ of_choices rest ops))
      (then_behind (of_value v) (λ ops. Pass (length (of_choices rest [])) ∷ of_choices rest ops) (value_behind v)
      (step_behind _ (of_choices rest) (choices_behind rest))))

  actual_behind : (a : ActualTree) → Behind (of_actual a)
  actual_behind missing_actual = single_behind _
  actual_behind (value_actual e) = cond_behind (has_call e) (λ ops. of_value e (Hand ∷ ops)) (λ ops. Actual (value_actual e) ∷ ops)
      (before_behind (of_value e) Hand (value_behind e)) (single_behind _)
  actual_behind (name_actual name) = single_behind _
  actual_behind (indirect_actual p) = cond_behind (has_call_primary p) (λ ops. of_primary p (Hand_name ∷ ops)) (λ ops. Actual (indirect_actual p) ∷ ops)
      (before_behind (of_primary p) Hand_name (primary_behind p)) (single_behind _)

  actuals_behind : (xs : ActualsTree) → Behind (of_actuals xs)
  actuals_behind no_actuals = none_behind
  actuals_behind (actuals a rest) = then_behind (of_actual a) (of_actuals rest) (actual_behind a) (actuals_behind rest)
