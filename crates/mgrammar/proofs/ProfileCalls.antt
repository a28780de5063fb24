-- SPDX-License-Identifier: Apache-2.0
-- What the profile has calls no function.
use Rattle.std.specs.Prelude.{max}
use Rattle.mgrammar.proofs.GrammarWords.{◌≡◌, ℕ, Bool, false, List, [], ◌∷◌, length, Option, Some, None, refl, arith, ◌||◌, list_any, ExprTree, expr, TailsTree}
use Rattle.mgrammar.proofs.GrammarWords.{no_tails, tail, TailTree, apply, matches, matches_not, raise, matches_indirect, matches_not_indirect, OperandTree}
use Rattle.mgrammar.proofs.GrammarWords.{operand, PrimaryTree, number, text, special, reference, bracket, call, select, refer, extrinsic, ReferenceTree, local}
use Rattle.mgrammar.proofs.GrammarWords.{global, naked, indirect, extended, ExprsTree, no_exprs, exprs, ChoicesTree, no_choices, choice, ActualsTree}
use Rattle.mgrammar.proofs.GrammarWords.{no_actuals, actuals, TargetTree, variable, part, DestinationTree, one, several, ParameterTree, once, onward, until}
use Rattle.mgrammar.proofs.GrammarWords.{LockedTree, lock_one, lock_several, ArgTree, assign, formats, coded, shown, kill_one, kill_others, new_one, new_others}
use Rattle.mgrammar.proofs.GrammarWords.{tested, loop, do_one, go_to, executed, locked, hang_for, returned, merge_one, indirect_args, SpacedTree, exprs_count}
use Rattle.mgrammar.specs.Commands.{since_keyword}
use Rattle.mgrammar.specs.Functions.{since_function, since_values, since_part}
use Rattle.mgrammar.specs.Languages.{since_all, since_optional, since_expr, since_tails, since_tail, since_operand, since_primary, since_reference, since_exprs}
use Rattle.mgrammar.specs.Languages.{since_choices, since_entry, since_actual, since_actuals, since_target, since_destination, since_parameter, since_locked}
use Rattle.mgrammar.specs.Languages.{since_forms, since_calls, since_arg, since_args, since_condition, since_spaced}
use Rattle.mgrammar.specs.ProgramsIn.{in_steps_arg, in_steps_optional}
use Rattle.mgrammar.specs.CallsIn.{has_call, has_call_tails, has_call_tail, has_call_operand, has_call_primary, has_call_reference, has_call_exprs}
use Rattle.mgrammar.specs.CallsIn.{has_call_choices, has_call_actuals, has_call_optional, has_call_target, has_call_destination, has_call_parameter}
use Rattle.mgrammar.specs.CallsIn.{has_call_locked, has_call_arg, has_call_spaced}
use Rattle.mgrammar.specs.GrammarLaws.{ProfileHasNoCall}

both : (a b : ℕ) → max a b ≡ 0 → (a ≡ 0) × (b ≡ 0)
both a b h = (omega (arith, h), omega (arith, h))

never : (a : ℕ) → max 1 a ≡ 0 → ⊥
never a h = omega (arith, h)

no : (a b : Bool) → a ≡ false → b ≡ false → a || b ≡ false
no a b p q = rw (p, q) refl

mutual
  expr_none : (e : ExprTree) → since_expr e ≡ 0 → has_call e ≡ false
  expr_none (expr first rest) h =
      let z = both (since_operand first) (since_tails rest) h in
      no (has_call_operand first) (has_call_tails rest) (operand_none first z.0) (tails_none rest z.1)

  tails_none : (s : TailsTree) → since_tails s ≡ 0 → has_call_tails s ≡ false
  tails_none no_tails h = refl
  tails_none (tail s rest) h =
      let z = both (since_tail s) (since_tails rest) h in
      no (has_call_tail s) (has_call_tails rest) (tail_none s z.0) (tails_none rest z.1)

  tail_none : (s : TailTree) → since_tail s ≡ 0 → has_call_tail s ≡ false
  tail_none (apply b o) h = operand_none o h
  tail_none (matches atoms) h = refl
  tail_none (matches_not atoms) h = refl
  tail_none (raise o) h = absurd (never (since_operand o) h)
  tail_none (matches_indirect p) h = absurd (never (since_primary p) h)
  tail_none (matches_not_indirect p) h = absurd (never (since_primary p) h)

  operand_none : (o : OperandTree) → since_operand o ≡ 0 → has_call_operand o ≡ false
  operand_none (operand signs p) h = primary_none p h

  primary_none : (p : PrimaryTree) → since_primary p ≡ 0 → has_call_primary p ≡ false
  primary_none (number literal) h = refl
  primary_none (text t) h = refl
  primary_none (special word) h = refl
  primary_none (reference r) h = reference_none r h
  primary_none (bracket e) h = expr_none e h
  primary_none (call word args) h = exprs_none args (both (max (since_function word) (since_values word (exprs_count args))) (since_exprs args) h).1
  primary_none (select word choices) h = choices_none choices (both (since_function word) (since_choices choices) h).1
  primary_none (refer word r more) h =
      let z = both (since_reference r) (since_exprs more) (both (since_function word) (max (since_reference r) (since_exprs more)) h).1 in
      no (has_call_reference r) (has_call_exprs more) (reference_none r z.0) (exprs_none more z.1)
  primary_none (extrinsic e xs) h = absurd (never (max (since_entry e) (since_actuals xs)) h)

  reference_none : (r : ReferenceTree) → since_reference r ≡ 0 → has_call_reference r ≡ false
  reference_none (local name subscripts) h = exprs_none subscripts h
  reference_none (global name subscripts) h = exprs_none subscripts h
  reference_none (naked subscripts) h = exprs_none subscripts h
  reference_none (indirect p subscripts) h =
      let z = both (since_primary p) (since_exprs subscripts) h in
      no (has_call_primary p) (has_call_exprs subscripts) (primary_none p z.0) (exprs_none subscripts z.1)
  reference_none (extended e name subscripts) h =
      let z = both (since_expr e) (since_exprs subscripts) h in
      no (has_call e) (has_call_exprs subscripts) (expr_none e z.0) (exprs_none subscripts z.1)

  exprs_none : (s : ExprsTree) → since_exprs s ≡ 0 → has_call_exprs s ≡ false
  exprs_none no_exprs h = refl
  exprs_none (exprs e rest) h =
      let z = both (since_expr e) (since_exprs rest) h in
      no (has_call e) (has_call_exprs rest) (expr_none e z.0) (exprs_none rest z.1)

  choices_none : (s : ChoicesTree) → since_choices s ≡ 0 → has_call_choices s ≡ false
  choices_none no_choices h = refl
  choices_none (choice c v rest) h =
      let z = both (since_expr c) (max (since_expr v) (since_choices rest)) h in
      let y = both (since_expr v) (since_choices rest) z.1 in
      no (has_call c) (has_call v || has_call_choices rest) (expr_none c z.0) (no (has_call v) (has_call_choices rest) (expr_none v y.0) (choices_none rest y.1))

-- if nothing of a list has one
all_none : {A : Type 0} (since : A → ℕ) (has : A → Bool) → ((x : A) → since x ≡ 0 → has x ≡ false) → (xs : List A) → since_all since xs ≡ 0 → list_any has xs ≡ false
all_none since has each [] h = refl
all_none since has each (x ∷ xs) h = let z = both (since x) (since_all since xs) h in no (has x) (list_any has xs) (each x z.0) (all_none since has each xs z.1)

pub profile_condition_has_no_call : (o : Option ExprTree) → since_optional since_expr o ≡ 0 → has_call_optional o ≡ false
profile_condition_has_no_call None h = refl
profile_condition_has_no_call (Some e) h = expr_none e h

actuals_none : (xs : ActualsTree) → since_actuals xs ≡ 0 → has_call_actuals xs ≡ false
actuals_none no_actuals h = refl
actuals_none (actuals a rest) h = absurd (never (max (since_actual a) (since_actuals rest)) h)

target_none : (t : TargetTree) → since_target t ≡ 0 → has_call_target t ≡ false
target_none (variable r) h = reference_none r h
target_none (part word r more) h =
    let z = both (since_reference r) (since_exprs more) (both (max (since_function word) (since_part word (exprs_count more))) (max (since_reference r) (since_exprs more)) h).1 in
    no (has_call_reference r) (has_call_exprs more) (reference_none r z.0) (exprs_none more z.1)

destination_none : (t : DestinationTree) → since_destination t ≡ 0 → has_call_destination t ≡ false
destination_none (one t) h = target_none t h
destination_none (several ts) h = all_none since_target has_call_target target_none ts h

parameter_none : (t : ParameterTree) → since_parameter t ≡ 0 → has_call_parameter t ≡ false
parameter_none (once e) h = expr_none e h
parameter_none (onward e by) h = let z = both (since_expr e) (since_expr by) h in no (has_call e) (has_call by) (expr_none e z.0) (expr_none by z.1)
parameter_none (until e by to) h =
    let z = both (since_expr e) (max (since_expr by) (since_expr to)) h in
    let y = both (since_expr by) (since_expr to) z.1 in
    no (has_call e) (has_call by || has_call to) (expr_none e z.0) (no (has_call by) (has_call to) (expr_none by y.0) (expr_none to y.1))

locked_none : (t : LockedTree) → since_locked t ≡ 0 → has_call_locked t ≡ false
locked_none (lock_one r) h = reference_none r h
locked_none (lock_several rs) h = all_none since_reference has_call_reference reference_none rs h

pub profile_forms_have_no_call : (a : ArgTree) → since_forms a ≡ 0 → has_call_arg a ≡ false
profile_forms_have_no_call (assign d e) h =
    let z = both (since_destination d) (since_expr e) h in
    no (has_call_destination d) (has_call e) (destination_none d z.0) (expr_none e z.1)
profile_forms_have_no_call (formats run None) h = refl
profile_forms_have_no_call (formats run (Some e)) h = absurd (never (since_expr e) h)
profile_forms_have_no_call (coded e) h = absurd (never (since_expr e) h)
profile_forms_have_no_call (shown e) h = expr_none e h
profile_forms_have_no_call (kill_one r) h = reference_none r h
profile_forms_have_no_call (kill_others names) h = refl
profile_forms_have_no_call (new_one name) h = refl
profile_forms_have_no_call (new_others names) h = refl
profile_forms_have_no_call (tested e) h = expr_none e h
profile_forms_have_no_call (loop index parameters) h = all_none since_parameter has_call_parameter parameter_none parameters h
profile_forms_have_no_call (do_one entry xs c) h =
    let z = both (max (since_entry entry) (since_actuals xs)) (since_optional since_expr c) h in
    no (has_call_actuals xs) (has_call_optional c) (actuals_none xs (both (since_entry entry) (since_actuals xs) z.0).1) (profile_condition_has_no_call c z.1)
profile_forms_have_no_call (go_to entry c) h = profile_condition_has_no_call c (both (since_entry entry) (since_optional since_expr c) h).1
profile_forms_have_no_call (executed e c) h =
    let z = both (since_expr e) (since_optional since_expr c) h in
    no (has_call e) (has_call_optional c) (expr_none e z.0) (profile_condition_has_no_call c z.1)
profile_forms_have_no_call (locked k names t) h =
    let z = both (since_locked names) (since_optional since_expr t) h in
    no (has_call_locked names) (has_call_optional t) (locked_none names z.0) (profile_condition_has_no_call t z.1)
profile_forms_have_no_call (hang_for e) h = expr_none e h
profile_forms_have_no_call (returned e) h = expr_none e h
profile_forms_have_no_call (merge_one target source) h =
    let z = both (since_reference target) (since_reference source) h in
    no (has_call_reference target) (has_call_reference source) (reference_none target z.0) (reference_none source z.1)
profile_forms_have_no_call (indirect_args f p) h = primary_none p h

-- no arguments of it call one
pub profile_args_have_no_call : (args : List ArgTree) → since_args args ≡ 0 → list_any has_call_arg args ≡ false
profile_args_have_no_call = all_none since_arg has_call_arg (λ a h. profile_forms_have_no_call a (both (since_calls (in_steps_arg a)) (since_forms a) h).1)

spaced_none : (c : SpacedTree) → since_spaced c ≡ 0 → has_call_spaced c ≡ false
spaced_none c h =
    let z = both (since_keyword c.0.keyword (length c.0.args)) (max (since_condition c.0.condition) (since_args c.0.args)) h in
    let y = both (since_condition c.0.condition) (since_args c.0.args) z.1 in
    let condition = both (since_calls (in_steps_optional c.0.condition)) (since_optional since_expr c.0.condition) y.0 in
    let condition_none = profile_condition_has_no_call c.0.condition condition.1 in
    no (has_call_optional c.0.condition) (list_any has_call_arg c.0.args) condition_none (profile_args_have_no_call c.0.args y.1)

-- and no line does
pub profile_has_no_call : ProfileHasNoCall
profile_has_no_call l h = all_none since_spaced has_call_spaced spaced_none l.commands h
