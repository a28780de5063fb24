-- SPDX-License-Identifier: Apache-2.0
-- Whether a tree has a call of a function in it: what it means then depends on what functions give, and else it does not.
use Rattle.std.specs.Prelude.{Bool, true, false, ◌||◌, Option, Some, None}
use Rattle.std.specs.List.{list_any}
use Rattle.mgrammar.specs.Grammar.{ExprTree, expr, TailsTree, no_tails, tail, TailTree, apply, matches, matches_not, raise, matches_indirect}
use Rattle.mgrammar.specs.Grammar.{matches_not_indirect, OperandTree, operand, PrimaryTree, number, text, special, reference, bracket, call, select, refer}
use Rattle.mgrammar.specs.Grammar.{extrinsic, ReferenceTree, local, global, naked, indirect, extended, ExprsTree, no_exprs, exprs, ChoicesTree, no_choices}
use Rattle.mgrammar.specs.Grammar.{choice, ActualTree, missing_actual, value_actual, name_actual, indirect_actual, ActualsTree, no_actuals, actuals}
use Rattle.mgrammar.specs.Grammar.{TargetTree, variable, part, DestinationTree, one, several, ParameterTree, once, onward, until, LockedTree, lock_one}
use Rattle.mgrammar.specs.Grammar.{lock_several, ArgTree, assign, formats, coded, shown, kill_one, kill_others, new_one, new_others, tested, loop, do_one}
use Rattle.mgrammar.specs.Grammar.{go_to, executed, locked, hang_for, returned, merge_one, indirect_args, SpacedTree, LineTree}

abbrev mutual
  pub has_call : ExprTree → Bool
  has_call (expr first rest) = has_call_operand first || has_call_tails rest

  pub has_call_tails : TailsTree → Bool
  has_call_tails no_tails = false
  has_call_tails (tail s rest) = has_call_tail s || has_call_tails rest

  pub has_call_tail : TailTree → Bool
  has_call_tail (apply b o) = has_call_operand o
  has_call_tail (matches atoms) = false
  has_call_tail (matches_not atoms) = false
  has_call_tail (raise o) = has_call_operand o
  has_call_tail (matches_indirect p) = has_call_primary p
  has_call_tail (matches_not_indirect p) = has_call_primary p

  pub has_call_operand : OperandTree → Bool
  has_call_operand (operand signs p) = has_call_primary p

  pub has_call_primary : PrimaryTree → Bool
  has_call_primary (number literal) = false
  has_call_primary (text t) = false
  has_call_primary (special word) = false
  has_call_primary (reference r) = has_call_reference r
  has_call_primary (bracket e) = has_call e
  has_call_primary (call word args) = has_call_exprs args
  has_call_primary (select word choices) = has_call_choices choices
  has_call_primary (refer word r more) = has_call_reference r || has_call_exprs more
  has_call_primary (extrinsic e xs) = true

  pub has_call_reference : ReferenceTree → Bool
  has_call_reference (local name subscripts) = has_call_exprs subscripts
  has_call_reference (global name subscripts) = has_call_exprs subscripts
  has_call_reference (naked subscripts) = has_call_exprs subscripts
  has_call_reference (indirect p subscripts) = has_call_primary p || has_call_exprs subscripts
  has_call_reference (extended e name subscripts) = has_call e || has_call_exprs subscripts

  pub has_call_exprs : ExprsTree → Bool
  has_call_exprs no_exprs = false
  has_call_exprs (exprs e rest) = has_call e || has_call_exprs rest

  pub has_call_choices : ChoicesTree → Bool
  has_call_choices no_choices = false
  has_call_choices (choice c v rest) = has_call c || (has_call v || has_call_choices rest)

abbrev pub has_call_actual : ActualTree → Bool
has_call_actual missing_actual = false
has_call_actual (value_actual e) = has_call e
has_call_actual (name_actual name) = false
has_call_actual (indirect_actual p) = has_call_primary p

abbrev pub has_call_actuals : ActualsTree → Bool
has_call_actuals no_actuals = false
has_call_actuals (actuals a rest) = has_call_actual a || has_call_actuals rest

abbrev pub has_call_optional : Option ExprTree → Bool
has_call_optional None = false
has_call_optional (Some e) = has_call e

abbrev pub has_call_target : TargetTree → Bool
has_call_target (variable r) = has_call_reference r
has_call_target (part word r more) = has_call_reference r || has_call_exprs more

abbrev pub has_call_destination : DestinationTree → Bool
has_call_destination (one t) = has_call_target t
has_call_destination (several ts) = list_any has_call_target ts

abbrev pub has_call_parameter : ParameterTree → Bool
has_call_parameter (once e) = has_call e
has_call_parameter (onward e by) = has_call e || has_call by
has_call_parameter (until e by to) = has_call e || (has_call by || has_call to)

abbrev pub has_call_locked : LockedTree → Bool
has_call_locked (lock_one r) = has_call_reference r
has_call_locked (lock_several rs) = list_any has_call_reference rs

abbrev pub has_call_arg : ArgTree → Bool
has_call_arg (assign d e) = has_call_destination d || has_call e
has_call_arg (formats run tab) = has_call_optional tab
has_call_arg (coded e) = has_call e
has_call_arg (shown e) = has_call e
has_call_arg (kill_one r) = has_call_reference r
has_call_arg (kill_others names) = false
has_call_arg (new_one name) = false
has_call_arg (new_others names) = false
has_call_arg (tested e) = has_call e
has_call_arg (loop index parameters) = list_any has_call_parameter parameters
has_call_arg (do_one entry xs c) = has_call_actuals xs || has_call_optional c
has_call_arg (go_to entry c) = has_call_optional c
has_call_arg (executed e c) = has_call e || has_call_optional c
has_call_arg (locked k names t) = has_call_locked names || has_call_optional t
has_call_arg (hang_for e) = has_call e
has_call_arg (returned e) = has_call e
has_call_arg (merge_one target source) = has_call_reference target || has_call_reference source
has_call_arg (indirect_args f p) = has_call_primary p

abbrev pub has_call_spaced : SpacedTree → Bool
has_call_spaced c = has_call_optional c.0.condition || list_any has_call_arg c.0.args

abbrev pub has_call_line : LineTree → Bool
has_call_line l = list_any has_call_spaced l.commands
