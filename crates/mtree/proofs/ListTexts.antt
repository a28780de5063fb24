-- SPDX-License-Identifier: Apache-2.0
-- Texts of lists, by what is in them and by its trees.
use Rattle.std.proofs.Common.{◌≡◌, ℕ, ◌<◌, List, [], ◌∷◌, ◌++◌, length, map, refl, ap, subst, ◌∙◌, arith}
use Rattle.std.specs.Prelude.{Result, Ok, Err, OnOk}
use Rattle.std.proofs.lemmas.List.{append_assoc}
use Rattle.mgrammar.specs.Grammar.{ExprTree, exprs_of, choices_of, spell_expr, spell_exprs, spell_more_exprs, spell_choices, spell_more_choices, spell_more}
use Rattle.mgrammar.specs.Grammar.{spell_list, spell_target, spell_reference, spell_parameter, spell_arg, spell_args, spell_subscripts, spell_attached}
use Rattle.mgrammar.specs.Grammar.{actuals_of, spell_actual, spell_actuals, spell_more_actuals}
use Rattle.mtree.specs.Tree.{expr_tree, choice_tree, reference_tree, target_tree, parameter_tree, arg_tree, actual_tree}
use Rattle.mtree.specs.declared.tree.Expr.{Expr}
use Rattle.mtree.specs.declared.tree.Choice.{Choice}
use Rattle.mtree.specs.declared.tree.Actual.{Actual}
use Rattle.mtree.specs.declared.tree.Reference.{Reference}
use Rattle.mtree.specs.declared.tree.Target.{Target}
use Rattle.mtree.specs.declared.tree.Parameter.{Parameter}
use Rattle.mtree.specs.declared.tree.Arg.{Arg}

more_by_trees : {X A : Type 0} (tree : X → A) (spell : A → List ℕ) (xs : List X) → spell_more (λ x. spell (tree x)) xs ≡ spell_more spell (map tree xs)
more_by_trees tree spell [] = refl
more_by_trees tree spell (x ∷ xs) = ap (λ (t : List ℕ). 44 ∷ (spell (tree x) ++ t)) (more_by_trees tree spell xs)

list_by_trees : {X A : Type 0} (tree : X → A) (spell : A → List ℕ) (xs : List X) → spell_list (λ x. spell (tree x)) xs ≡ spell_list spell (map tree xs)
list_by_trees tree spell [] = refl
list_by_trees tree spell (x ∷ xs) = ap (λ (t : List ℕ). spell (tree x) ++ t) (more_by_trees tree spell xs)

pub parameters : (xs : List Parameter) → spell_list (λ x. spell_parameter (parameter_tree x)) xs ≡ spell_list spell_parameter (map parameter_tree xs)
parameters xs = list_by_trees parameter_tree spell_parameter xs

pub targets : (xs : List Target) → spell_list (λ x. spell_target (target_tree x)) xs ≡ spell_list spell_target (map target_tree xs)
targets xs = list_by_trees target_tree spell_target xs

pub references : (xs : List Reference) → spell_list (λ x. spell_reference (reference_tree x)) xs ≡ spell_list spell_reference (map reference_tree xs)
references xs = list_by_trees reference_tree spell_reference xs

-- some arguments, after a space
pub some_args : {X E : Type 0} (r : Result X E) (xs : List Arg) (old before new : List ℕ) → 0 < length xs → before ≡ old ++ 32 ∷ [] → OnOk r (new ≡ before ++ spell_list (λ x. spell_arg (arg_tree x)) xs)
    → OnOk r (new ≡ old ++ spell_args (map arg_tree xs))
some_args (Err e) xs old before new some b n = tt
some_args (Ok y) [] old before new some b n = absurd (omega arith)
some_args (Ok y) (x ∷ xs) old before new some b n =
    n ∙ ap (λ (t : List ℕ). t ++ spell_list (λ x. spell_arg (arg_tree x)) (x ∷ xs)) b ∙ append_assoc old (32 ∷ []) (spell_list (λ x. spell_arg (arg_tree x)) (x ∷ xs))
    ∙ ap (λ (t : List ℕ). old ++ 32 ∷ t) (list_by_trees arg_tree spell_arg (x ∷ xs))

-- an argument list, and the choices of $SELECT

more_arguments : (xs : List Expr) → spell_more (λ x. spell_expr (expr_tree x)) xs ≡ spell_more_exprs (exprs_of (map expr_tree xs))
more_arguments [] = refl
more_arguments (x ∷ xs) = ap (λ (t : List ℕ). 44 ∷ (spell_expr (expr_tree x) ++ t)) (more_arguments xs)

pub arguments : (xs : List Expr) → spell_list (λ x. spell_expr (expr_tree x)) xs ≡ spell_exprs (exprs_of (map expr_tree xs))
arguments [] = refl
arguments (x ∷ xs) = ap (λ (t : List ℕ). spell_expr (expr_tree x) ++ t) (more_arguments xs)

-- some subscripts, in brackets
pub some_subscripts : {X E : Type 0} (r : Result X E) (xs : List Expr) (old before mid new : List ℕ) → 0 < length xs → before ≡ old ++ 40 ∷ [] → mid ≡ before ++ spell_list (λ x. spell_expr (expr_tree x)) xs → OnOk r (new ≡ mid ++ 41 ∷ [])
    → OnOk r (new ≡ old ++ spell_subscripts (exprs_of (map expr_tree xs)))
some_subscripts (Err e) xs old before mid new some b m n = tt
some_subscripts (Ok y) [] old before mid new some b m n = absurd (omega arith)
some_subscripts (Ok y) (x ∷ xs) old before mid new some b m n =
    let first = spell_expr (expr_tree x) in
    let more = spell_more_exprs (exprs_of (map expr_tree xs)) in
    n ∙ ap (λ (t : List ℕ). t ++ 41 ∷ []) (m ∙ ap (λ (t : List ℕ). t ++ spell_list (λ x. spell_expr (expr_tree x)) (x ∷ xs)) b)
    ∙ append_assoc (old ++ 40 ∷ []) (spell_list (λ x. spell_expr (expr_tree x)) (x ∷ xs)) (41 ∷ [])
    ∙ append_assoc old (40 ∷ []) (spell_list (λ x. spell_expr (expr_tree x)) (x ∷ xs) ++ 41 ∷ [])
    ∙ ap (λ (t : List ℕ). old ++ 40 ∷ (t ++ 41 ∷ [])) (arguments (x ∷ xs))
    ∙ ap (λ (t : List ℕ). old ++ 40 ∷ t) (append_assoc first more (41 ∷ []))

-- subscripts after an `@`, which is there if there are some
module _ {X E : Type 0} (r : Result X E) (old before new : List ℕ) where
  pub no_attached : (xs : List Expr) → length xs ≡ 0 → before ≡ old → OnOk r (new ≡ before ++ spell_subscripts (exprs_of (map expr_tree xs))) → OnOk r (new ≡ old ++ spell_attached (exprs_of (map expr_tree xs)))
  no_attached [] none b n = subst (λ (t : List ℕ). OnOk r (new ≡ t ++ [])) b n
  no_attached (x ∷ xs) none b n = absurd (omega arith)

  pub some_attached : (xs : List Expr) → 0 < length xs → before ≡ old ++ 64 ∷ [] → OnOk r (new ≡ before ++ spell_subscripts (exprs_of (map expr_tree xs)))
      → OnOk r (new ≡ old ++ spell_attached (exprs_of (map expr_tree xs)))
  some_attached [] some b n = absurd (omega arith)
  some_attached (x ∷ xs) some b n =
      let subscripts = spell_subscripts (exprs_of (map expr_tree (x ∷ xs))) in
      let e : before ++ subscripts ≡ old ++ 64 ∷ subscripts = ap (λ (t : List ℕ). t ++ subscripts) b ∙ append_assoc old (64 ∷ []) subscripts in
      subst (λ (t : List ℕ). OnOk r (new ≡ t)) e n

-- actuals

more_actuals : (xs : List Actual) → spell_more (λ x. spell_actual (actual_tree x)) xs ≡ spell_more_actuals (actuals_of (map actual_tree xs))
more_actuals [] = refl
more_actuals (x ∷ xs) = ap (λ (t : List ℕ). 44 ∷ (spell_actual (actual_tree x) ++ t)) (more_actuals xs)

-- some actuals, in brackets
pub some_actuals : {X E : Type 0} (r : Result X E) (xs : List Actual) (old before mid new : List ℕ) → 0 < length xs → before ≡ old ++ 40 ∷ [] → mid ≡ before ++ spell_list (λ x. spell_actual (actual_tree x)) xs → OnOk r (new ≡ mid ++ 41 ∷ [])
    → OnOk r (new ≡ old ++ spell_actuals (actuals_of (map actual_tree xs)))
some_actuals (Err e) xs old before mid new some b m n = tt
some_actuals (Ok y) [] old before mid new some b m n = absurd (omega arith)
some_actuals (Ok y) (x ∷ xs) old before mid new some b m n =
    let first = spell_actual (actual_tree x) in
    let more = spell_more_actuals (actuals_of (map actual_tree xs)) in
    n ∙ ap (λ (t : List ℕ). t ++ 41 ∷ []) (m ∙ ap (λ (t : List ℕ). t ++ spell_list (λ x. spell_actual (actual_tree x)) (x ∷ xs)) b)
    ∙ append_assoc (old ++ 40 ∷ []) (spell_list (λ x. spell_actual (actual_tree x)) (x ∷ xs)) (41 ∷ [])
    ∙ append_assoc old (40 ∷ []) (spell_list (λ x. spell_actual (actual_tree x)) (x ∷ xs) ++ 41 ∷ [])
    ∙ ap (λ (t : List ℕ). old ++ 40 ∷ ((first ++ t) ++ 41 ∷ [])) (more_actuals xs)
    ∙ ap (λ (t : List ℕ). old ++ 40 ∷ t) (append_assoc first more (41 ∷ []))

-- the text of a choice
abbrev pub choice_text : ExprTree × ExprTree → List ℕ
choice_text c = spell_expr c.0 ++ 58 ∷ spell_expr c.1

more_choices : (xs : List Choice) → spell_more (λ x. choice_text (choice_tree x)) xs ≡ spell_more_choices (choices_of (map choice_tree xs))
more_choices [] = refl
more_choices (x ∷ xs) =
    let first = spell_expr (choice_tree x).0 in
    let second = spell_expr (choice_tree x).1 in
    ap (λ (t : List ℕ). 44 ∷ t)
    (append_assoc first (58 ∷ second) (spell_more (λ x. choice_text (choice_tree x)) xs) ∙ ap (λ (t : List ℕ). first ++ 58 ∷ (second ++ t)) (more_choices xs))

pub choices : (xs : List Choice) → spell_list (λ x. choice_text (choice_tree x)) xs ≡ spell_choices (choices_of (map choice_tree xs))
choices [] = refl
choices (x ∷ xs) =
    let first = spell_expr (choice_tree x).0 in
    let second = spell_expr (choice_tree x).1 in
    append_assoc first (58 ∷ second) (spell_more (λ x. choice_text (choice_tree x)) xs) ∙ ap (λ (t : List ℕ). first ++ 58 ∷ (second ++ t)) (more_choices xs)

-- a list after a word's bracket, with the bracket that ends it
pub in_bracket : {X E : Type 0} (r : Result X E) (old word mid before new list : List ℕ) → mid ≡ old ++ 36 ∷ (word ++ 40 ∷ []) → before ≡ mid ++ list → OnOk r (new ≡ before ++ 41 ∷ [])
    → OnOk r (new ≡ old ++ 36 ∷ (word ++ 40 ∷ (list ++ 41 ∷ [])))
in_bracket (Err e) old word mid before new list m b n = tt
in_bracket (Ok x) old word mid before new list m b n =
    n ∙ ap (λ (t : List ℕ). t ++ 41 ∷ []) (b ∙ ap (λ (t : List ℕ). t ++ list) m) ∙ append_assoc (old ++ 36 ∷ (word ++ 40 ∷ [])) list (41 ∷ [])
    ∙ append_assoc old (36 ∷ (word ++ 40 ∷ [])) (list ++ 41 ∷ []) ∙ ap (λ (t : List ℕ). old ++ 36 ∷ t) (append_assoc word (40 ∷ []) (list ++ 41 ∷ []))
