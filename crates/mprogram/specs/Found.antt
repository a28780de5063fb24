-- SPDX-License-Identifier: Apache-2.0
-- The step at a number, looked for in a tree: what comes there in a part of it, and else how many steps are left to pass after the part.
-- Each definition follows that of the part's steps: `in_value` is of `of_value`.
use Rattle.std.specs.Prelude.{ℕ, suc, ◌-◌, ◌^◌, ◌<◌, ◌==◌, cond, List, [], ◌∷◌, length, slice_get, Option, Some, None, SomeIff}
use Rattle.mspec.specs.Code.{M4, Zsyntax}
use Rattle.mgrammar.specs.Grammar.{SignTree, ExprTree, expr, TailsTree, no_tails, tail, TailTree, apply, matches, matches_not, raise, matches_indirect}
use Rattle.mgrammar.specs.Grammar.{matches_not_indirect, OperandTree, operand, PrimaryTree, number, text, special, reference, bracket, call, select, refer}
use Rattle.mgrammar.specs.Grammar.{extrinsic, ReferenceTree, local, global, naked, indirect, extended, ExprsTree, no_exprs, exprs, ChoicesTree}
use Rattle.mgrammar.specs.Grammar.{no_choices, choice, ActualTree, missing_actual, value_actual, name_actual, indirect_actual, ActualsTree}
use Rattle.mgrammar.specs.Grammar.{no_actuals, actuals, TargetTree, variable, part, DestinationTree, ArgTree, assign, formats, coded, shown, kill_one}
use Rattle.mgrammar.specs.Grammar.{tested, do_one, go_to, executed, locked, hang_for, returned, merge_one, indirect_args, ParameterTree, once, onward}
use Rattle.mgrammar.specs.Grammar.{until}
use Rattle.mgrammar.specs.Functions.{data_function, get_function, increment_function, name_function, order_function, query_function, FunctionTree}
use Rattle.mgrammar.specs.Functions.{of_variable, function_of}
use Rattle.mgrammar.specs.CallsIn.{has_call, has_call_operand, has_call_primary, has_call_destination, has_call_exprs}
use Rattle.mmeaning.specs.LineMeaning.{targets}
use Rattle.mmeaning.specs.Locking.{names_of}
use Rattle.mmeaning.specs.Expression.{is_bare}
use Rattle.mmeaning.specs.Programs.{Op, Operand, Tail, Spend, Sign, Join, Raise, Match, Match_not, Values, Add, Function, Begin, Actual, Hand, Hand_name}
use Rattle.mmeaning.specs.Programs.{Call, Where, Formats, Prepare, Local, Global, Naked, Extended, Named, Read, Data, Resolve, Get, Walk, Order, Unless, Pass}
use Rattle.mmeaning.specs.Programs.{Targets, Target, Part, Names, Name, Numbers, Number, Tell_name, Increment, Seek, Query, Refuse, of_value}
use Rattle.mmeaning.specs.Programs.{of_choices, Deeper, Attach}
use Rattle.mprogram.specs.Wholes.{WholeTree, of_argument, of_condition, of_parameter}

pub data FoundTree : Type 0 where
  step : Op → FoundTree
  past : ℕ → FoundTree

-- if the part is past, what comes after it
abbrev pub found_then : FoundTree → (ℕ → FoundTree) → FoundTree
found_then (step o) next = step o
found_then (past left) next = next left

-- one step, and two
abbrev pub single : Op → ℕ → FoundTree
single o at = cond (at == 0) (step o) (past (at - 1))

abbrev pub both : Op → Op → ℕ → FoundTree
both o next at = found_then (single o at) (single next)

abbrev pub in_signs : List SignTree → ℕ → FoundTree
in_signs [] at = past at
in_signs (s ∷ ss) at = single (Sign (s ∷ ss)) at

-- a function of the variable that the one part finds, and of the values of the other
abbrev pub in_referred : Option FunctionTree → (ℕ → FoundTree) → (ℕ → FoundTree) → ℕ → FoundTree
in_referred (Some (of_variable data_function most)) first more at = found_then (first at) (single Data)
in_referred (Some (of_variable get_function most)) first more at =
    found_then (first at) (λ left. found_then (both Resolve Values left) (λ left. found_then (more left) (single Get)))
in_referred (Some (of_variable increment_function most)) first more at =
    found_then (first at) (λ left. found_then (single Values left) (λ left. found_then (more left) (single Increment)))
in_referred (Some (of_variable name_function most)) first more at =
    found_then (first at) (λ left. found_then (single Values left) (λ left. found_then (more left) (single Tell_name)))
in_referred (Some (of_variable order_function most)) first more at =
    found_then (first at) (λ left. found_then (both Walk Values left) (λ left. found_then (more left) (single Order)))
in_referred (Some (of_variable query_function most)) first more at =
    found_then (first at) (λ left. found_then (both Seek Values left) (λ left. found_then (more left) (single Query)))
in_referred f first more at = single (Refuse Zsyntax) at

-- what passes the value of a choice by, and what passes choices by
abbrev pub passing_value : ExprTree → Op
passing_value v = Unless (suc (length (of_value v [])))

abbrev pub passing_choices : ChoicesTree → Op
passing_choices s = Pass (length (of_choices s []))

abbrev mutual
  pub in_value : ExprTree → ℕ → FoundTree
  in_value (expr first rest) at = found_then (in_operand first at) (in_tails rest)

  pub in_tails : TailsTree → ℕ → FoundTree
  in_tails no_tails at = past at
  in_tails (tail s rest) at = found_then (in_tail s at) (in_tails rest)

  pub in_tail : TailTree → ℕ → FoundTree
  in_tail (apply b o) at = cond (has_call_operand o) (found_then (in_operand o at) (single (Join b))) (single (Tail (apply b o)) at)
  in_tail (raise o) at = cond (has_call_operand o) (found_then (in_operand o at) (single Raise)) (single (Tail (raise o)) at)
  in_tail (matches atoms) at = single (Tail (matches atoms)) at
  in_tail (matches_not atoms) at = single (Tail (matches_not atoms)) at
  in_tail (matches_indirect p) at = cond (has_call_primary p) (found_then (in_primary p at) (single Match)) (single (Tail (matches_indirect p)) at)
  in_tail (matches_not_indirect p) at =
      cond (has_call_primary p) (found_then (in_primary p at) (single Match_not)) (single (Tail (matches_not_indirect p)) at)

  pub in_operand : OperandTree → ℕ → FoundTree
  in_operand (operand signs p) at = cond (has_call_primary p) (found_then (in_primary p at) (in_signs signs)) (single (Operand (operand signs p)) at)

  pub in_primary : PrimaryTree → ℕ → FoundTree
  in_primary (number literal) at = single (Operand (operand [] (number literal))) at
  in_primary (text t) at = single (Operand (operand [] (text t))) at
  in_primary (special word) at = single (Operand (operand [] (special word))) at
  in_primary (reference r) at = found_then (single Spend at) (λ left. found_then (in_reference r left) (single Read))
  in_primary (bracket e) at = found_then (single Spend at) (in_value e)
  in_primary (call word args) at = found_then (both Spend Values at) (λ left. found_then (in_values args left) (single (Function word)))
  in_primary (select word choices) at = found_then (single Spend at) (in_choices choices)
  in_primary (refer word r more) at = found_then (single Spend at) (in_referred (function_of word) (in_reference r) (in_values more))
  in_primary (extrinsic e xs) at =
      found_then (both Spend Begin at) (λ left. found_then (cond (is_bare xs) (past left) (in_actuals xs left)) (single (Call e)))

  pub in_reference : ReferenceTree → ℕ → FoundTree
  in_reference (local name subscripts) at = found_then (single Values at) (λ left. found_then (in_values subscripts left) (single (Local name)))
  in_reference (global name subscripts) at = found_then (single Values at) (λ left. found_then (in_values subscripts left) (single (Global name)))
  in_reference (naked subscripts) at = found_then (single Values at) (λ left. found_then (in_values subscripts left) (single Naked))
  in_reference (indirect p subscripts) at =
      cond (has_call_exprs subscripts)
      (found_then (found_then (in_primary p at) (single Deeper)) (λ left. found_then (single Values left) (λ left.
      found_then (in_values subscripts left) (single Attach))))
      (found_then (in_primary p at) (single (Named subscripts)))
  in_reference (extended e name subscripts) at =
      found_then (found_then (in_value e at) (single Values)) (λ left. found_then (in_values subscripts left) (single (Extended name)))

  pub in_values : ExprsTree → ℕ → FoundTree
  in_values no_exprs at = past at
  in_values (exprs e rest) at = found_then (found_then (in_value e at) (single Add)) (in_values rest)

  pub in_choices : ChoicesTree → ℕ → FoundTree
  in_choices no_choices at = single (Refuse M4) at
  in_choices (choice c v rest) at =
      found_then (found_then (found_then (in_value c at) (single (passing_value v)))
      (λ left. found_then (in_value v left) (single (passing_choices rest)))) (in_choices rest)

  pub in_actual : ActualTree → ℕ → FoundTree
  in_actual missing_actual at = single (Actual missing_actual) at
  in_actual (value_actual e) at = cond (has_call e) (found_then (in_value e at) (single Hand)) (single (Actual (value_actual e)) at)
  in_actual (name_actual name) at = single (Actual (name_actual name)) at
  in_actual (indirect_actual p) at =
      cond (has_call_primary p) (found_then (in_primary p at) (single Hand_name)) (single (Actual (indirect_actual p)) at)

  pub in_actuals : ActualsTree → ℕ → FoundTree
  in_actuals no_actuals at = past at
  in_actuals (actuals a rest) at = found_then (in_actual a at) (in_actuals rest)

abbrev pub in_list : ActualsTree → ℕ → FoundTree
in_list xs at = cond (is_bare xs) (past at) (in_actuals xs at)

-- ---- arguments and conditions

abbrev pub in_target : TargetTree → ℕ → FoundTree
in_target (variable r) at = found_then (in_reference r at) (single Target)
in_target (part word r more) at =
    found_then (found_then (in_reference r at) (single Values)) (λ left. found_then (in_values more left) (single (Part word)))

abbrev pub in_targets : List TargetTree → ℕ → FoundTree
in_targets [] at = past at
in_targets (t ∷ ts) at = found_then (in_target t at) (in_targets ts)

abbrev pub in_destination : DestinationTree → ℕ → FoundTree
in_destination d at = cond (has_call_destination d) (found_then (single Targets at) (in_targets (targets d))) (single (Prepare d) at)

abbrev pub in_names : List ReferenceTree → ℕ → FoundTree
in_names [] at = past at
in_names (r ∷ rs) at = found_then (found_then (in_reference r at) (single Name)) (in_names rs)

abbrev pub in_timeout : Option ExprTree → ℕ → FoundTree
in_timeout None at = past at
in_timeout (Some e) at = in_value e at

abbrev pub in_number : ExprTree → ℕ → FoundTree
in_number e at = found_then (in_value e at) (single Number)

abbrev pub in_onward : ExprTree → ExprTree → ℕ → FoundTree
in_onward e by at = found_then (single Numbers at) (λ left. found_then (in_number e left) (in_number by))

abbrev pub in_parameter : ParameterTree → ℕ → FoundTree
in_parameter (once e) at = in_value e at
in_parameter (onward e by) at = in_onward e by at
in_parameter (until e by to) at = found_then (in_onward e by at) (in_number to)

abbrev pub in_condition : Option ExprTree → ℕ → FoundTree
in_condition None at = past at
in_condition (Some e) at = found_then (in_value e at) (single Where)

abbrev pub in_argument : ArgTree → ℕ → FoundTree
in_argument (assign d e) at = found_then (in_destination d at) (in_value e)
in_argument (formats run (Some e)) at = found_then (single (Formats run) at) (in_value e)
in_argument (coded e) at = in_value e at
in_argument (shown e) at = in_value e at
in_argument (kill_one r) at = in_reference r at
in_argument (tested e) at = in_value e at
in_argument (do_one e xs c) at = found_then (in_condition c at) (λ left. found_then (single Begin left) (in_list xs))
in_argument (go_to e c) at = in_condition c at
in_argument (executed e c) at = found_then (in_condition c at) (in_value e)
in_argument (locked k names t) at = found_then (single Names at) (λ left. found_then (in_names (names_of names) left) (in_timeout t))
in_argument (hang_for e) at = in_value e at
in_argument (returned e) at = in_value e at
in_argument (merge_one target source) at = found_then (in_reference target at) (in_reference source)
in_argument (indirect_args f p) at = in_primary p at
in_argument a at = past at

abbrev pub in_whole : WholeTree → ℕ → FoundTree
in_whole (of_argument a) at = in_argument a at
in_whole (of_condition e) at = in_value e at
in_whole (of_parameter index q rest body) at = in_parameter q at

-- ---- in a list

-- what is found, if these steps come after the part
abbrev pub found_before : FoundTree → List Op → Option Op
found_before (step o) rest = Some o
found_before (past left) rest = slice_get rest left

-- ---- counted

-- this number, and none if the machine's numbers do not go so far
abbrev pub IsCount : Option ℕ → ℕ → Type 0
IsCount r count = SomeIff r (count < 2 ^ 64) count
