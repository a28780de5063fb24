-- SPDX-License-Identifier: Apache-2.0
-- What has no call is in steps.
use Rattle.mgrammar.proofs.GrammarWords.{◌≡◌, Bool, true, false, List, [], ◌∷◌, Option, Some, None, refl, ◌||◌, list_any, ExprTree, expr, TailsTree}
use Rattle.mgrammar.proofs.GrammarWords.{no_tails, tail, TailTree, apply, matches, matches_not, raise, matches_indirect, matches_not_indirect, OperandTree}
use Rattle.mgrammar.proofs.GrammarWords.{operand, PrimaryTree, number, text, special, reference, bracket, call, select, refer, extrinsic, ExprsTree, no_exprs}
use Rattle.mgrammar.proofs.GrammarWords.{exprs, ActualTree, missing_actual, value_actual, name_actual, indirect_actual, ActualsTree, no_actuals, actuals}
use Rattle.mgrammar.proofs.GrammarWords.{ArgTree, assign, formats, coded, shown, kill_one, kill_others, new_one, new_others, tested, loop, do_one}
use Rattle.mgrammar.proofs.GrammarWords.{go_to, executed, locked, hang_for, returned, merge_one, indirect_args, SpacedTree}
use Rattle.std.specs.Prelude.{◌&&◌}
use Rattle.std.specs.List.{list_all}
use Rattle.mgrammar.specs.Grammar.{ReferenceTree, local, global, naked, indirect, extended, ChoicesTree, no_choices, choice}
use Rattle.mgrammar.specs.Grammar.{TargetTree, variable, part, DestinationTree, one, several, ParameterTree, once, onward, until, LockedTree}
use Rattle.mgrammar.specs.Grammar.{lock_one, lock_several}
use Rattle.mgrammar.specs.CallsIn.{has_call_target, has_call_parameter, has_call_locked}
use Rattle.mgrammar.specs.CallsIn.{has_call, has_call_tails, has_call_tail, has_call_operand, has_call_primary, has_call_reference, has_call_exprs}
use Rattle.mgrammar.specs.CallsIn.{has_call_choices, has_call_actual, has_call_actuals, has_call_optional, has_call_destination, has_call_arg}
use Rattle.mgrammar.specs.CallsIn.{has_call_spaced}
use Rattle.mgrammar.specs.ProgramsIn.{in_steps, in_steps_tails, in_steps_tail, in_steps_operand, in_steps_primary, in_steps_exprs, in_steps_actual}
use Rattle.mgrammar.specs.ProgramsIn.{in_steps_reference, in_steps_choices, in_steps_actuals, in_steps_optional, in_steps_target, in_steps_destination}
use Rattle.mgrammar.specs.ProgramsIn.{in_steps_parameter, in_steps_locked, in_steps_arg, in_steps_args, in_steps_spaced}
use Rattle.mgrammar.specs.GrammarLaws.{UncalledIsInSteps}

-- neither of two
pub neither : (a b : Bool) → a || b ≡ false → (a ≡ false) × (b ≡ false)
neither true b h = absurd (let clash : true ≡ false = h in cc)
neither false b h = (refl, h)

pub both : (a b : Bool) → a ≡ true → b ≡ true → a && b ≡ true
both a b p q = rw (p, q) refl

mutual
  expr_steps : (e : ExprTree) → has_call e ≡ false → in_steps e ≡ true
  expr_steps (expr first rest) h =
      let n = neither (has_call_operand first) (has_call_tails rest) h in
      both (in_steps_operand first) (in_steps_tails rest) (operand_steps first n.0) (tails_steps rest n.1)

  tails_steps : (s : TailsTree) → has_call_tails s ≡ false → in_steps_tails s ≡ true
  tails_steps no_tails h = refl
  tails_steps (tail s rest) h =
      let n = neither (has_call_tail s) (has_call_tails rest) h in
      both (in_steps_tail s) (in_steps_tails rest) (tail_steps s n.0) (tails_steps rest n.1)

  tail_steps : (s : TailTree) → has_call_tail s ≡ false → in_steps_tail s ≡ true
  tail_steps (apply b o) h = operand_steps o h
  tail_steps (matches atoms) h = refl
  tail_steps (matches_not atoms) h = refl
  tail_steps (raise o) h = operand_steps o h
  tail_steps (matches_indirect p) h = primary_steps p h
  tail_steps (matches_not_indirect p) h = primary_steps p h

  operand_steps : (o : OperandTree) → has_call_operand o ≡ false → in_steps_operand o ≡ true
  operand_steps (operand signs p) h = primary_steps p h

  primary_steps : (p : PrimaryTree) → has_call_primary p ≡ false → in_steps_primary p ≡ true
  primary_steps (number literal) h = refl
  primary_steps (text t) h = refl
  primary_steps (special word) h = refl
  primary_steps (reference r) h = reference_steps r h
  primary_steps (bracket e) h = expr_steps e h
  primary_steps (call word args) h = exprs_steps args h
  primary_steps (select word choices) h = choices_steps choices h
  primary_steps (refer word r more) h =
      let n = neither (has_call_reference r) (has_call_exprs more) h in
      both (in_steps_reference r) (in_steps_exprs more) (reference_steps r n.0) (exprs_steps more n.1)
  primary_steps (extrinsic e xs) h = absurd (let clash : true ≡ false = h in cc)

  reference_steps : (r : ReferenceTree) → has_call_reference r ≡ false → in_steps_reference r ≡ true
  reference_steps (local name subscripts) h = exprs_steps subscripts h
  reference_steps (global name subscripts) h = exprs_steps subscripts h
  reference_steps (naked subscripts) h = exprs_steps subscripts h
  reference_steps (indirect p subscripts) h =
      let n = neither (has_call_primary p) (has_call_exprs subscripts) h in
      both (in_steps_primary p) (in_steps_exprs subscripts) (primary_steps p n.0) (exprs_steps subscripts n.1)
  reference_steps (extended e name subscripts) h =
      let n = neither (has_call e) (has_call_exprs subscripts) h in
      both (in_steps e) (in_steps_exprs subscripts) (expr_steps e n.0) (exprs_steps subscripts n.1)

  choices_steps : (s : ChoicesTree) → has_call_choices s ≡ false → in_steps_choices s ≡ true
  choices_steps no_choices h = refl
  choices_steps (choice c v rest) h =
      let n = neither (has_call c) (has_call v || has_call_choices rest) h in
      let m = neither (has_call v) (has_call_choices rest) n.1 in
      let values = both (in_steps v) (in_steps_choices rest) (expr_steps v m.0) (choices_steps rest m.1) in
      both (in_steps c) (in_steps v && in_steps_choices rest) (expr_steps c n.0) values

  exprs_steps : (es : ExprsTree) → has_call_exprs es ≡ false → in_steps_exprs es ≡ true
  exprs_steps no_exprs h = refl
  exprs_steps (exprs e rest) h =
      let n = neither (has_call e) (has_call_exprs rest) h in
      both (in_steps e) (in_steps_exprs rest) (expr_steps e n.0) (exprs_steps rest n.1)

actual_steps : (a : ActualTree) → has_call_actual a ≡ false → in_steps_actual a ≡ true
actual_steps missing_actual h = refl
actual_steps (value_actual e) h = expr_steps e h
actual_steps (name_actual name) h = refl
actual_steps (indirect_actual p) h = primary_steps p h

actuals_steps : (xs : ActualsTree) → has_call_actuals xs ≡ false → in_steps_actuals xs ≡ true
actuals_steps no_actuals h = refl
actuals_steps (actuals a rest) h =
    let n = neither (has_call_actual a) (has_call_actuals rest) h in
    both (in_steps_actual a) (in_steps_actuals rest) (actual_steps a n.0) (actuals_steps rest n.1)

pub optional_steps : (o : Option ExprTree) → has_call_optional o ≡ false → in_steps_optional o ≡ true
optional_steps None h = refl
optional_steps (Some e) h = expr_steps e h

-- each of a list
each_steps : {A : Type 0} (has is : A → Bool) → ((x : A) → has x ≡ false → is x ≡ true) → (xs : List A) → list_any has xs ≡ false → list_all is xs ≡ true
each_steps has is each [] h = refl
each_steps has is each (x ∷ xs) h =
    let n = neither (has x) (list_any has xs) h in
    both (is x) (list_all is xs) (each x n.0) (each_steps has is each xs n.1)

target_steps : (t : TargetTree) → has_call_target t ≡ false → in_steps_target t ≡ true
target_steps (variable r) h = reference_steps r h
target_steps (part word r more) h =
    let n = neither (has_call_reference r) (has_call_exprs more) h in
    both (in_steps_reference r) (in_steps_exprs more) (reference_steps r n.0) (exprs_steps more n.1)

destination_steps : (d : DestinationTree) → has_call_destination d ≡ false → in_steps_destination d ≡ true
destination_steps (one t) h = target_steps t h
destination_steps (several ts) h = each_steps has_call_target in_steps_target target_steps ts h

parameter_steps : (q : ParameterTree) → has_call_parameter q ≡ false → in_steps_parameter q ≡ true
parameter_steps (once e) h = expr_steps e h
parameter_steps (onward e by) h =
    let n = neither (has_call e) (has_call by) h in
    both (in_steps e) (in_steps by) (expr_steps e n.0) (expr_steps by n.1)
parameter_steps (until e by to) h =
    let n = neither (has_call e) (has_call by || has_call to) h in
    let m = neither (has_call by) (has_call to) n.1 in
    both (in_steps e) (in_steps by && in_steps to) (expr_steps e n.0) (both (in_steps by) (in_steps to) (expr_steps by m.0) (expr_steps to m.1))

locked_steps : (t : LockedTree) → has_call_locked t ≡ false → in_steps_locked t ≡ true
locked_steps (lock_one r) h = reference_steps r h
locked_steps (lock_several rs) h = each_steps has_call_reference in_steps_reference reference_steps rs h

pub arg_steps : (a : ArgTree) → has_call_arg a ≡ false → in_steps_arg a ≡ true
arg_steps (assign d e) h =
    let n = neither (has_call_destination d) (has_call e) h in
    both (in_steps_destination d) (in_steps e) (destination_steps d n.0) (expr_steps e n.1)
arg_steps (formats run tab) h = optional_steps tab h
arg_steps (coded e) h = expr_steps e h
arg_steps (shown e) h = expr_steps e h
arg_steps (kill_one r) h = reference_steps r h
arg_steps (kill_others names) h = refl
arg_steps (new_one name) h = refl
arg_steps (new_others names) h = refl
arg_steps (tested e) h = expr_steps e h
arg_steps (loop index parameters) h = each_steps has_call_parameter in_steps_parameter parameter_steps parameters h
arg_steps (do_one entry xs c) h =
    let n = neither (has_call_actuals xs) (has_call_optional c) h in
    both (in_steps_actuals xs) (in_steps_optional c) (actuals_steps xs n.0) (optional_steps c n.1)
arg_steps (go_to entry c) h = optional_steps c h
arg_steps (executed e c) h =
    let n = neither (has_call e) (has_call_optional c) h in
    both (in_steps e) (in_steps_optional c) (expr_steps e n.0) (optional_steps c n.1)
arg_steps (locked k names t) h =
    let n = neither (has_call_locked names) (has_call_optional t) h in
    both (in_steps_locked names) (in_steps_optional t) (locked_steps names n.0) (optional_steps t n.1)
arg_steps (hang_for e) h = expr_steps e h
arg_steps (returned e) h = expr_steps e h
arg_steps (merge_one target source) h =
    let n = neither (has_call_reference target) (has_call_reference source) h in
    both (in_steps_reference target) (in_steps_reference source) (reference_steps target n.0) (reference_steps source n.1)
arg_steps (indirect_args f p) h = primary_steps p h

spaced_steps : (c : SpacedTree) → has_call_spaced c ≡ false → in_steps_spaced c ≡ true
spaced_steps c h =
    let n = neither (has_call_optional c.0.condition) (list_any has_call_arg c.0.args) h in
    let args = each_steps has_call_arg in_steps_arg arg_steps c.0.args n.1 in
    both (in_steps_optional c.0.condition) (in_steps_args c.0.args) (optional_steps c.0.condition n.0) args

pub uncalled_is_in_steps : UncalledIsInSteps
uncalled_is_in_steps l h = each_steps has_call_spaced in_steps_spaced spaced_steps l.commands h
