-- SPDX-License-Identifier: Apache-2.0
-- What is read in a language, by what is read at all and by the first language that has all its forms; and the first language of a list,
-- counted from the front.
use Rattle.std.proofs.Common.{◌≡◌, ℕ, Bool, true, ◌<◌, ◌≤◌, List, Option, Some, None, refl, sym, ap, ◌∙◌, arith}
use Rattle.std.specs.Prelude.{max, map, length}
use Rattle.std.proofs.lemmas.List.{length-map}
use Rattle.std.proofs.lemmas.Bool.{le-leb, lt-leb}
use Rattle.mgrammar.specs.Grammar.{LineTree, ExprTree, ReferenceTree, ArgTree, FormTree, exprs_of, call}
use Rattle.mgrammar.specs.WellFormed.{exprs_count}
use Rattle.mgrammar.proofs.ReadingTrees.{count-length}
use Rattle.mgrammar.proofs.StepsEarly.{profile_forms_are_in_steps, profile_condition_is_in_steps}
use Rattle.mgrammar.specs.ProgramsIn.{in_steps_arg, in_steps_optional}
use Rattle.mtree.specs.Tree.{expr_tree, arg_tree}
use Rattle.mtree.specs.declared.tree.Expr.{Expr}
use Rattle.mtree.specs.declared.tree.Arg.{Arg}
use Rattle.mgrammar.specs.Reading.{line_at}
use Rattle.mgrammar.specs.RoutineLine.{RoutineLineTree, routine_line_at}
use Rattle.mgrammar.specs.IndirectTexts.{ref_at, args_of}
use Rattle.mgrammar.specs.Functions.{since_function, since_values}
use Rattle.mgrammar.specs.Languages.{since_optional, since_expr, since_primary, since_exprs, since_forms, since_calls, since_arg, since_condition, kept_in}
use Rattle.mgrammar.specs.Languages.{since_line, since_routine_line, since_reference, since_args, line_in, routine_line_in, ref_in, args_in}

-- nothing is earlier than 0
pub max_none : (a : ℕ) → max a 0 ≡ a
max_none a = omega arith

-- the latest of three
pub max_more : (a b c : ℕ) → max (max a b) c ≡ max a (max b c)
max_more a b c = omega arith

-- that of one more actual, whose list is of language 1
pub max_three : (a b c : ℕ) → max (max a (max 1 b)) c ≡ max a (max 1 (max b c))
max_three a b c = omega arith

-- the arguments of a command are as many as they were
pub args_counted : (args : List Arg) → length (map arg_tree args) ≡ length args
args_counted args = length-map args arg_tree

-- the values of a call are as many as they were
pub counted : (values : List Expr) → exprs_count (exprs_of (map expr_tree values)) ≡ length values
counted values = count-length (map expr_tree values) ∙ length-map values expr_tree

pub call_since : (word : List ℕ) (values : List Expr) (count function rest all : ℕ) → count ≡ length values → function ≡ max (since_function word) (since_values word count) → rest ≡ since_exprs (exprs_of (map expr_tree values))
    → all ≡ max function rest → all ≡ since_primary (call word (exprs_of (map expr_tree values)))
call_since word values count function rest all count_is function_is rest_is all_is =
    all_is ∙ ap (λ n. max n rest) (function_is ∙ ap (λ n. max (since_function word) (since_values word n)) (count_is ∙ sym (counted values)))
    ∙ ap (max (max (since_function word) (since_values word (exprs_count (exprs_of (map expr_tree values)))))) rest_is

plain : (is : Bool) (forms : ℕ) → is ≡ true → forms ≡ 0 → 0 ≡ max (since_calls is) forms
plain is forms p q = rw (p, q) refl

-- what is of the profile need not be looked through for calls
pub plain_arg : (a : ArgTree) → since_forms a ≡ 0 → 0 ≡ since_arg a
plain_arg a none = plain (in_steps_arg a) (since_forms a) (profile_forms_are_in_steps a none) none

pub plain_condition : (c : Option ExprTree) → since_optional since_expr c ≡ 0 → 0 ≡ since_condition c
plain_condition c none = plain (in_steps_optional c) (since_optional since_expr c) (profile_condition_is_in_steps c none) none

module _ {A : Type 0} (since : A → ℕ) (n : ℕ) where
  kept : (o : Option A) (t : A) → o ≡ Some t → since t ≤ n → kept_in since n o ≡ Some t
  kept o t is le = ap (kept_in since n) is ∙ rw (le-leb (since t) n le) refl

  left_out : (o : Option A) (t : A) → o ≡ Some t → n < since t → kept_in since n o ≡ None
  left_out o t is later = ap (kept_in since n) is ∙ rw (lt-leb (since t) n later) refl

  nothing : (o : Option A) → o ≡ None → kept_in since n o ≡ None
  nothing o none = ap (kept_in since n) none

module _ (n : ℕ) (text : List ℕ) where
  pub line_kept : (l : LineTree) → line_at text ≡ Some l → since_line l ≤ n → line_in n text ≡ Some l
  unfolding line_in
  line_kept l = kept since_line n (line_at text) l

  pub line_left_out : (l : LineTree) → line_at text ≡ Some l → n < since_line l → line_in n text ≡ None
  unfolding line_in
  line_left_out l = left_out since_line n (line_at text) l

  pub no_line : line_at text ≡ None → line_in n text ≡ None
  unfolding line_in
  no_line = nothing since_line n (line_at text)

  pub routine_line_kept : (l : RoutineLineTree) → routine_line_at text ≡ Some l → since_routine_line l ≤ n → routine_line_in n text ≡ Some l
  unfolding routine_line_in
  routine_line_kept l = kept since_routine_line n (routine_line_at text) l

  pub routine_line_left_out : (l : RoutineLineTree) → routine_line_at text ≡ Some l → n < since_routine_line l → routine_line_in n text ≡ None
  unfolding routine_line_in
  routine_line_left_out l = left_out since_routine_line n (routine_line_at text) l

  pub no_routine_line : routine_line_at text ≡ None → routine_line_in n text ≡ None
  unfolding routine_line_in
  no_routine_line = nothing since_routine_line n (routine_line_at text)

  pub reference_kept : (v : ReferenceTree) → ref_at text ≡ Some v → since_reference v ≤ n → ref_in n text ≡ Some v
  unfolding ref_in
  reference_kept v = kept since_reference n (ref_at text) v

  pub reference_left_out : (v : ReferenceTree) → ref_at text ≡ Some v → n < since_reference v → ref_in n text ≡ None
  unfolding ref_in
  reference_left_out v = left_out since_reference n (ref_at text) v

  pub no_reference : ref_at text ≡ None → ref_in n text ≡ None
  unfolding ref_in
  no_reference = nothing since_reference n (ref_at text)

  pub args_kept : (f : FormTree) (args : List ArgTree) → args_of f text ≡ Some args → since_args args ≤ n → args_in f n text ≡ Some args
  unfolding args_in
  args_kept f args = kept since_args n (args_of f text) args

  pub args_left_out : (f : FormTree) (args : List ArgTree) → args_of f text ≡ Some args → n < since_args args → args_in f n text ≡ None
  unfolding args_in
  args_left_out f args = left_out since_args n (args_of f text) args

  pub no_args : (f : FormTree) → args_of f text ≡ None → args_in f n text ≡ None
  unfolding args_in
  no_args f = nothing since_args n (args_of f text)
