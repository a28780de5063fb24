-- SPDX-License-Identifier: Apache-2.0
-- Languages: which of them has a tree, and what a text is read as in each.
--
-- There is one grammar, that of all languages together. A tree needs the first language that has all its forms, which is counted from
-- the rows of its words: 0 is the profile, and each later language has all that those before it have. A text whose tree needs a later
-- language is as a text that has no tree.
use Rattle.std.specs.Prelude.{ℕ, Bool, nat_le, max, if◌then◌else◌, List, [], ◌∷◌, length, Option, Some, None}
use Rattle.mgrammar.specs.Grammar.{RepeatedTree, classes, copies, group, AtomTree, ExprTree, expr, TailsTree, no_tails, tail, TailTree, apply, matches}
use Rattle.mgrammar.specs.Grammar.{matches_not, raise, matches_indirect, matches_not_indirect, OperandTree, operand, RoutineTree, own_routine, shared_routine}
use Rattle.mgrammar.specs.Grammar.{EntryTree, at_label, at_label_in, at_routine, PrimaryTree, number, text, special, reference, bracket, call, select, refer}
use Rattle.mgrammar.specs.Grammar.{extrinsic, ReferenceTree, local, global, naked, indirect, extended, ExprsTree, no_exprs, exprs, ChoicesTree, no_choices}
use Rattle.mgrammar.specs.Grammar.{choice, ActualTree, missing_actual, value_actual, name_actual, indirect_actual, ActualsTree, no_actuals, actuals}
use Rattle.mgrammar.specs.Grammar.{TargetTree, variable, part, DestinationTree, one, several, ParameterTree, once, onward, until, LockedTree, lock_one}
use Rattle.mgrammar.specs.Grammar.{lock_several, FormTree, ArgTree, assign, formats, coded, shown, kill_one, kill_others, new_one, new_others, tested, loop}
use Rattle.mgrammar.specs.Grammar.{do_one, go_to, executed, locked, hang_for, returned, merge_one, indirect_args, CommandTree, SpacedTree, LineTree, is_bang}
use Rattle.mgrammar.specs.Functions.{since_function, since_values, since_part}
use Rattle.mgrammar.specs.WellFormed.{exprs_count}
use Rattle.mgrammar.specs.Commands.{since_keyword}
use Rattle.mgrammar.specs.Specials.{since_special}
use Rattle.mgrammar.specs.Reading.{line_at}
use Rattle.mgrammar.specs.RoutineLine.{BodyTree, short, spaced_out, RoutineLineTree, routine_line_at}
use Rattle.mgrammar.specs.IndirectTexts.{ref_at, args_of}
use Rattle.mgrammar.specs.ProgramsIn.{in_steps_arg, in_steps_optional}

-- ---- the first language that has all forms of a tree

-- what all these need
abbrev pub since_all : {A : Type 0} → (A → ℕ) → List A → ℕ
since_all since [] = 0
since_all since (a ∷ rest) = max (since a) (since_all since rest)

abbrev pub since_optional : {A : Type 0} → (A → ℕ) → Option A → ℕ
since_optional since None = 0
since_optional since (Some a) = since a

abbrev pub since_repeated : RepeatedTree → ℕ
since_repeated (classes letters) = 0
since_repeated (copies t) = 0
since_repeated (group ps) = 1

abbrev pub since_atom : AtomTree → ℕ
since_atom a = since_repeated a.repeated

abbrev pub since_routine : RoutineTree → ℕ
since_routine (own_routine name) = 0
since_routine (shared_routine account name) = 1

abbrev pub since_entry : EntryTree → ℕ
since_entry (at_label label) = 0
since_entry (at_label_in label routine) = since_routine routine
since_entry (at_routine routine) = since_routine routine

abbrev mutual
  pub since_expr : ExprTree → ℕ
  since_expr (expr first rest) = max (since_operand first) (since_tails rest)

  pub since_tails : TailsTree → ℕ
  since_tails no_tails = 0
  since_tails (tail s rest) = max (since_tail s) (since_tails rest)

  pub since_tail : TailTree → ℕ
  since_tail (apply b o) = since_operand o
  since_tail (matches atoms) = since_all since_atom atoms
  since_tail (matches_not atoms) = since_all since_atom atoms
  since_tail (raise o) = max 1 (since_operand o)
  since_tail (matches_indirect p) = max 1 (since_primary p)
  since_tail (matches_not_indirect p) = max 1 (since_primary p)

  pub since_operand : OperandTree → ℕ
  since_operand (operand signs p) = since_primary p

  pub since_primary : PrimaryTree → ℕ
  since_primary (number literal) = 0
  since_primary (text t) = 0
  since_primary (special word) = since_special word
  since_primary (reference r) = since_reference r
  since_primary (bracket e) = since_expr e
  since_primary (call word args) = max (max (since_function word) (since_values word (exprs_count args))) (since_exprs args)
  since_primary (select word choices) = max (since_function word) (since_choices choices)
  since_primary (refer word r more) = max (since_function word) (max (since_reference r) (since_exprs more))
  since_primary (extrinsic e xs) = max 1 (max (since_entry e) (since_actuals xs))

  pub since_reference : ReferenceTree → ℕ
  since_reference (local name subscripts) = since_exprs subscripts
  since_reference (global name subscripts) = since_exprs subscripts
  since_reference (naked subscripts) = since_exprs subscripts
  since_reference (indirect p subscripts) = max (since_primary p) (since_exprs subscripts)
  since_reference (extended e name subscripts) = max (since_expr e) (since_exprs subscripts)

  pub since_exprs : ExprsTree → ℕ
  since_exprs no_exprs = 0
  since_exprs (exprs e rest) = max (since_expr e) (since_exprs rest)

  pub since_choices : ChoicesTree → ℕ
  since_choices no_choices = 0
  since_choices (choice c v rest) = max (since_expr c) (max (since_expr v) (since_choices rest))

  pub since_actual : ActualTree → ℕ
  since_actual missing_actual = 0
  since_actual (value_actual e) = since_expr e
  since_actual (name_actual name) = 0
  since_actual (indirect_actual p) = since_primary p

  pub since_actuals : ActualsTree → ℕ
  since_actuals no_actuals = 0
  since_actuals (actuals a rest) = max 1 (max (since_actual a) (since_actuals rest))

abbrev pub since_target : TargetTree → ℕ
since_target (variable r) = since_reference r
since_target (part word r more) = max (max (since_function word) (since_part word (exprs_count more))) (max (since_reference r) (since_exprs more))

abbrev pub since_destination : DestinationTree → ℕ
since_destination (one t) = since_target t
since_destination (several ts) = since_all since_target ts

abbrev pub since_parameter : ParameterTree → ℕ
since_parameter (once e) = since_expr e
since_parameter (onward e by) = max (since_expr e) (since_expr by)
since_parameter (until e by to) = max (since_expr e) (max (since_expr by) (since_expr to))

abbrev pub since_locked : LockedTree → ℕ
since_locked (lock_one r) = since_reference r
since_locked (lock_several rs) = since_all since_reference rs

-- a `!`, which all languages have, or a `#`
abbrev pub since_format : ℕ → ℕ
since_format c = if is_bang c then 0 else 1

-- that of the forms of an argument, wherever functions are called in it
abbrev pub since_forms : ArgTree → ℕ
since_forms (assign d e) = max (since_destination d) (since_expr e)
since_forms (formats run None) = since_all since_format run
since_forms (formats run (Some e)) = max 1 (since_expr e)
since_forms (coded e) = max 1 (since_expr e)
since_forms (shown e) = since_expr e
since_forms (kill_one r) = since_reference r
since_forms (kill_others names) = 0
since_forms (new_one name) = 0
since_forms (new_others names) = 0
since_forms (tested e) = since_expr e
since_forms (loop index parameters) = since_all since_parameter parameters
since_forms (do_one entry xs c) = max (max (since_entry entry) (since_actuals xs)) (since_optional since_expr c)
since_forms (go_to entry c) = max (since_entry entry) (since_optional since_expr c)
since_forms (executed e c) = max (since_expr e) (since_optional since_expr c)
since_forms (locked k names t) = max (since_locked names) (since_optional since_expr t)
since_forms (hang_for e) = since_expr e
since_forms (returned e) = since_expr e
since_forms (merge_one target source) = max (since_reference target) (since_reference source)
since_forms (indirect_args f p) = since_primary p

-- that of the places where functions are called, from whether these can be reached a step at a time
abbrev pub since_calls : Bool → ℕ
since_calls stepped = if stepped then 0 else 2

abbrev pub since_arg : ArgTree → ℕ
since_arg a = max (since_calls (in_steps_arg a)) (since_forms a)

abbrev pub since_args : List ArgTree → ℕ
since_args = since_all since_arg

-- that of the condition of a command, if there is one
abbrev pub since_condition : Option ExprTree → ℕ
since_condition c = max (since_calls (in_steps_optional c)) (since_optional since_expr c)

abbrev pub since_command : CommandTree → ℕ
since_command c = max (since_keyword c.keyword (length c.args)) (max (since_condition c.condition) (since_args c.args))

abbrev pub since_spaced : SpacedTree → ℕ
since_spaced c = since_command c.0

abbrev pub since_line : LineTree → ℕ
since_line l = since_all since_spaced l.commands

abbrev pub since_body : BodyTree → ℕ
since_body (short o) = 0
since_body (spaced_out dots l) = since_line l

abbrev pub since_formals : Option (List (List ℕ)) → ℕ
since_formals None = 0
since_formals (Some names) = 1

abbrev pub since_routine_line : RoutineLineTree → ℕ
since_routine_line l = max (since_formals l.formals) (since_body l.body)

-- ---- what a text is read as in a language

-- a tree that was read, if the language has all its forms
abbrev pub kept_in : {A : Type 0} → (A → ℕ) → ℕ → Option A → Option A
kept_in since language None = None
kept_in since language (Some t) = if nat_le (since t) language then Some t else None

unfoldable pub line_in : ℕ → List ℕ → Option LineTree
line_in language cs = kept_in since_line language (line_at cs)

unfoldable pub routine_line_in : ℕ → List ℕ → Option RoutineLineTree
routine_line_in language cs = kept_in since_routine_line language (routine_line_at cs)

-- as the text of a name indirection, where a call fails once it is reached
unfoldable pub ref_in : ℕ → List ℕ → Option ReferenceTree
ref_in language cs = kept_in since_reference language (ref_at cs)

-- as that of an argument indirection
unfoldable pub args_in : FormTree → ℕ → List ℕ → Option (List ArgTree)
args_in f language cs = kept_in since_args language (args_of f cs)
