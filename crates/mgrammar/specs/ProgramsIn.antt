-- SPDX-License-Identifier: Apache-2.0
-- Whether each call of a function in a tree stands where it can be carried out a step at a time: anywhere.
use Rattle.std.specs.Prelude.{Bool, true, ◌&&◌, List, Option, Some, None}
use Rattle.std.specs.List.{list_all}
use Rattle.mgrammar.specs.Grammar.{ExprTree, expr, TailsTree, no_tails, tail, TailTree, apply, matches, matches_not, raise, matches_indirect}
use Rattle.mgrammar.specs.Grammar.{matches_not_indirect}
use Rattle.mgrammar.specs.Grammar.{OperandTree, operand, PrimaryTree, number, text, special, reference, bracket, call, select, refer, extrinsic, ReferenceTree}
use Rattle.mgrammar.specs.Grammar.{local, global, naked, indirect, extended, ExprsTree, no_exprs, exprs, ChoicesTree, no_choices, choice}
use Rattle.mgrammar.specs.Grammar.{ActualTree, missing_actual, value_actual, name_actual, indirect_actual, ActualsTree, no_actuals, actuals}
use Rattle.mgrammar.specs.Grammar.{TargetTree, variable, part, DestinationTree, one, several, ParameterTree, once, onward, until, LockedTree}
use Rattle.mgrammar.specs.Grammar.{lock_one, lock_several}
use Rattle.mgrammar.specs.Grammar.{ArgTree, assign, formats, coded, shown, kill_one, kill_others, new_one, new_others, tested, loop, do_one, go_to, executed}
use Rattle.mgrammar.specs.Grammar.{locked, hang_for, returned, merge_one, indirect_args, SpacedTree, LineTree}

abbrev mutual
  pub in_steps : ExprTree → Bool
  in_steps (expr first rest) = in_steps_operand first && in_steps_tails rest

  pub in_steps_tails : TailsTree → Bool
  in_steps_tails no_tails = true
  in_steps_tails (tail s rest) = in_steps_tail s && in_steps_tails rest

  pub in_steps_tail : TailTree → Bool
  in_steps_tail (apply b o) = in_steps_operand o
  in_steps_tail (matches atoms) = true
  in_steps_tail (matches_not atoms) = true
  in_steps_tail (raise o) = in_steps_operand o
  in_steps_tail (matches_indirect p) = in_steps_primary p
  in_steps_tail (matches_not_indirect p) = in_steps_primary p

  pub in_steps_operand : OperandTree → Bool
  in_steps_operand (operand signs p) = in_steps_primary p

  pub in_steps_primary : PrimaryTree → Bool
  in_steps_primary (number literal) = true
  in_steps_primary (text t) = true
  in_steps_primary (special word) = true
  in_steps_primary (reference r) = in_steps_reference r
  in_steps_primary (bracket e) = in_steps e
  in_steps_primary (call word args) = in_steps_exprs args
  in_steps_primary (select word choices) = in_steps_choices choices
  in_steps_primary (refer word r more) = in_steps_reference r && in_steps_exprs more
  in_steps_primary (extrinsic e xs) = in_steps_actuals xs

  pub in_steps_reference : ReferenceTree → Bool
  in_steps_reference (local name subscripts) = in_steps_exprs subscripts
  in_steps_reference (global name subscripts) = in_steps_exprs subscripts
  in_steps_reference (naked subscripts) = in_steps_exprs subscripts
  in_steps_reference (indirect p subscripts) = in_steps_primary p && in_steps_exprs subscripts
  in_steps_reference (extended e name subscripts) = in_steps e && in_steps_exprs subscripts

  pub in_steps_exprs : ExprsTree → Bool
  in_steps_exprs no_exprs = true
  in_steps_exprs (exprs e rest) = in_steps e && in_steps_exprs rest

  pub in_steps_choices : ChoicesTree → Bool
  in_steps_choices no_choices = true
  in_steps_choices (choice c v rest) = in_steps c && (in_steps v && in_steps_choices rest)

  pub in_steps_actual : ActualTree → Bool
  in_steps_actual missing_actual = true
  in_steps_actual (value_actual e) = in_steps e
  in_steps_actual (name_actual name) = true
  in_steps_actual (indirect_actual p) = in_steps_primary p

  pub in_steps_actuals : ActualsTree → Bool
  in_steps_actuals no_actuals = true
  in_steps_actuals (actuals a rest) = in_steps_actual a && in_steps_actuals rest

-- if there is one
abbrev pub in_steps_optional : Option ExprTree → Bool
in_steps_optional None = true
in_steps_optional (Some e) = in_steps e

-- ---- arguments, and lines

abbrev pub in_steps_target : TargetTree → Bool
in_steps_target (variable r) = in_steps_reference r
in_steps_target (part word r more) = in_steps_reference r && in_steps_exprs more

abbrev pub in_steps_destination : DestinationTree → Bool
in_steps_destination (one t) = in_steps_target t
in_steps_destination (several ts) = list_all in_steps_target ts

abbrev pub in_steps_parameter : ParameterTree → Bool
in_steps_parameter (once e) = in_steps e
in_steps_parameter (onward e by) = in_steps e && in_steps by
in_steps_parameter (until e by to) = in_steps e && (in_steps by && in_steps to)

abbrev pub in_steps_locked : LockedTree → Bool
in_steps_locked (lock_one r) = in_steps_reference r
in_steps_locked (lock_several rs) = list_all in_steps_reference rs

abbrev pub in_steps_arg : ArgTree → Bool
in_steps_arg (assign d e) = in_steps_destination d && in_steps e
in_steps_arg (formats run tab) = in_steps_optional tab
in_steps_arg (coded e) = in_steps e
in_steps_arg (shown e) = in_steps e
in_steps_arg (kill_one r) = in_steps_reference r
in_steps_arg (kill_others names) = true
in_steps_arg (new_one name) = true
in_steps_arg (new_others names) = true
in_steps_arg (tested e) = in_steps e
in_steps_arg (loop index parameters) = list_all in_steps_parameter parameters
in_steps_arg (do_one entry xs c) = in_steps_actuals xs && in_steps_optional c
in_steps_arg (go_to entry c) = in_steps_optional c
in_steps_arg (executed e c) = in_steps e && in_steps_optional c
in_steps_arg (locked k names t) = in_steps_locked names && in_steps_optional t
in_steps_arg (hang_for e) = in_steps e
in_steps_arg (returned e) = in_steps e
in_steps_arg (merge_one target source) = in_steps_reference target && in_steps_reference source
in_steps_arg (indirect_args f p) = in_steps_primary p

abbrev pub in_steps_args : List ArgTree → Bool
in_steps_args = list_all in_steps_arg

abbrev pub in_steps_spaced : SpacedTree → Bool
in_steps_spaced c = in_steps_optional c.0.condition && in_steps_args c.0.args

abbrev pub in_steps_line : LineTree → Bool
in_steps_line l = list_all in_steps_spaced l.commands
