-- SPDX-License-Identifier: Apache-2.0
-- The parts of a tree, from a place on.
use Rattle.meval.proofs.EvalWords.{Doubts-same, ◌≡◌, ℕ, ◌+◌, ◌<◌, ◌≤◌, [], ◌∷◌, ◌++◌, Bool, length, drop, get_or, map, Result, Ok, Err, subst, refl, sym, arith}
use Rattle.meval.proofs.EvalWords.{cond, significant_digits, numeric_value, Act, ◌>>=◌, charge, give, fail, PrimaryTree, ExprTree, EntryTree, ActualsTree, tail}
use Rattle.meval.proofs.EvalWords.{tails_of, exprs_of, choices_of, number, text, special, reference, bracket, call, select, refer, extrinsic, special_of}
use Rattle.meval.proofs.EvalWords.{as_text, as_truth, Inside, value, tails_value, primary_value, evaluated, values, chosen, reading, resolve, read_at}
use Rattle.meval.proofs.EvalWords.{referring, special_value, expr_tree, tail_tree, choice_tree, Expr, Tail, Choice, Ghosts, Code, M4, Eval, Evaluates, List}
use Rattle.meval.proofs.EvalWords.{true, false, Text, function_of, call_value}
use Rattle.std.proofs.Math.ListN.{drop_of_length-le}
use Rattle.mspec.proofs.ListPlaces.{next_item}
use Rattle.mspec.specs.Code as spec
use Rattle.mmeaning.specs.Expression.{handed_over}
use Rattle.moperator.specs.declared.code.Code.TheVariants as code
use Rattle.meval.proofs.Calls.{evaluates_then, evaluates_failed, evaluates_gives, evaluates_fails, keeps_itself}
use Rattle.meval.proofs.TreeViews.{choice_is}

-- what an evaluation gives is its text
abbrev itself : Text → Text
itself v = v

module _ {S : Type 0} {g : Ghosts S} where
  -- the charge of a primary, whichever it is
  pub charge_failed : {old new : Eval S} (p : PrimaryTree) (e : Code) → Evaluates g (λ i. charge) (λ (u : Unit {0}). u) old (Err e) new → Evaluates g (λ i. primary_value i p) itself old (Err e) new
  charge_failed (number literal) e d = evaluates_failed (λ i _. as_text (numeric_value significant_digits literal)) d
  charge_failed (text t) e d = evaluates_failed (λ i _. give t) d
  charge_failed (special word) e d = evaluates_failed (λ i _. special_value i.depth.wants_value (special_of word)) d
  charge_failed (reference r) e d = evaluates_failed (λ i _. evaluated i r >>= (λ v. resolve reading v >>= read_at)) d
  charge_failed (bracket e') e d = evaluates_failed (λ i _. value i e') d
  charge_failed (call word args) e d = evaluates_failed (λ i _. values i [] args >>= call_value word) d
  charge_failed (select word choices) e d = evaluates_failed (λ i _. chosen i choices) d
  charge_failed (refer word r more) e d = evaluates_failed (λ i _. referring i.account (function_of word) (evaluated i r) (values i [] more)) d
  charge_failed (extrinsic e' xs) e d = evaluates_failed (λ i _. i.calls i.depth e' (handed_over i xs)) d

  -- no function is called
  pub uncalled : {e : Eval S} (entry : EntryTree) (xs : ActualsTree) → Evaluates g (λ i. i.calls i.depth entry (handed_over i xs)) itself e (Err code.Zsyntax) e
  uncalled {e = e} entry xs =
      let fails : Evaluates g (λ i. fail spec.Zsyntax) itself e (Err code.Zsyntax) e = evaluates_fails itself spec.Zsyntax code.Zsyntax refl in
      record { at = fails.at; doubt = fails.doubt; keeps = fails.keeps; depth = fails.depth }

  -- ---- steps of an expression

  module _ {X : Type 0} (f : X → Text) where
    -- a step and those after it, from where the step is on
    pub from_tail : {old new : Eval S} (items : List Tail) (i : ℕ) (d : Tail) (x : Text) (r : Result X Code) → i < length items → d ≡ get_or items i d
        → Evaluates g (λ a. tails_value a x (tail (tail_tree d) (tails_of (map tail_tree (drop (i + 1) items))))) f old r new
        → Evaluates g (λ a. tails_value a x (tails_of (map tail_tree (drop i items)))) f old r new
    from_tail {old = old} {new = new} items i d x r within is h =
        subst (λ (rest : List Tail). Evaluates g (λ a. tails_value a x (tails_of (map tail_tree rest))) f old r new) (sym (next_item items i d within is)) h

    -- after the last step
    pub from_end : {e : Eval S} (items : List Tail) (i : ℕ) (y : X) → length items ≤ i → Evaluates g (λ a. tails_value a (f y) (tails_of (map tail_tree (drop i items)))) f e (Ok y) e
    from_end {e = e} items i y past =
        subst (λ (rest : List Tail). Evaluates g (λ a. tails_value a (f y) (tails_of (map tail_tree rest))) f e (Ok y) e) (sym (drop_of_length-le items past)) (evaluates_gives (f y) f y refl)

  -- ---- arguments

  module _ {X : Type 0} (view : X → List Text) where
    pub next_value : {old mid new : Eval S} (items : List Expr) (i : ℕ) (d : Expr) (xs : List Text) (x : Text) (r : Result X Code) → i < length items → d ≡ get_or items i d
        → Evaluates g (λ a. value a (expr_tree d)) itself old (Ok x) mid → Evaluates g (λ a. values a (xs ++ x ∷ []) (exprs_of (map expr_tree (drop (i + 1) items)))) view mid r new
        → Evaluates g (λ a. values a xs (exprs_of (map expr_tree (drop i items)))) view old r new
    next_value {old = old} {new = new} items i d xs x r within is h k =
        subst (λ (rest : List Expr). Evaluates g (λ a. values a xs (exprs_of (map expr_tree rest))) view old r new) (sym (next_item items i d within is))
        (evaluates_then (λ a x. values a (xs ++ x ∷ []) (exprs_of (map expr_tree (drop (i + 1) items)))) h k)

    pub value_failed : {old new : Eval S} (items : List Expr) (i : ℕ) (d : Expr) (xs : List Text) (e : Code) → i < length items → d ≡ get_or items i d
        → Evaluates g (λ a. value a (expr_tree d)) itself old (Err e) new → Evaluates g (λ a. values a xs (exprs_of (map expr_tree (drop i items)))) view old (Err e) new
    value_failed {old = old} {new = new} items i d xs e within is h =
        subst (λ (rest : List Expr). Evaluates g (λ a. values a xs (exprs_of (map expr_tree rest))) view old (Err e) new) (sym (next_item items i d within is))
        (evaluates_failed (λ a x. values a (xs ++ x ∷ []) (exprs_of (map expr_tree (drop (i + 1) items)))) h)

    pub values_end : {e : Eval S} (items : List Expr) (i : ℕ) (xs : X) → length items ≤ i → Evaluates g (λ a. values a (view xs) (exprs_of (map expr_tree (drop i items)))) view e (Ok xs) e
    values_end {e = e} items i xs past =
        subst (λ (rest : List Expr). Evaluates g (λ a. values a (view xs) (exprs_of (map expr_tree rest))) view e (Ok xs) e) (sym (drop_of_length-le items past)) (evaluates_gives (view xs) view xs refl)

  -- ---- choices

  -- the rest of a choice, once its condition has its truth
  pub next_choice : {old new : Eval S} (items : List Choice) (i : ℕ) (d : Choice) (r : Result Text Code) → i < length items → d ≡ get_or items i d
      → Evaluates g (λ a. value a (expr_tree d.condition) >>= (λ x. as_truth x >>= (λ b. cond b (value a (expr_tree d.value)) (chosen a (choices_of (map choice_tree (drop (i + 1) items))))))) itself old r new
      → Evaluates g (λ a. chosen a (choices_of (map choice_tree (drop i items)))) itself old r new
  next_choice {old = old} {new = new} items i d r within is h =
      let first = choice_is d in
      subst (λ (rest : List Choice). Evaluates g (λ a. chosen a (choices_of (map choice_tree rest))) itself old r new) (sym (next_item items i d within is))
      (subst (λ (c : ExprTree × ExprTree). Evaluates g (λ a. value a c.0 >>= (λ x. as_truth x >>= (λ b. cond b (value a c.1) (chosen a (choices_of (map choice_tree (drop (i + 1) items))))))) itself old r new) (sym first) h)

  -- once the condition has its truth
  pub is_chosen : {old new : Eval S} {r : Result Text Code} (b : Bool) (p q : Inside → Act Text) → b ≡ true → Evaluates g p itself old r new → Evaluates g (λ a. cond b (p a) (q a)) itself old r new
  is_chosen {old = old} {new = new} {r = r} b p q e h = subst (λ b. Evaluates g (λ a. cond b (p a) (q a)) itself old r new) (sym e) h

  pub not_chosen : {old new : Eval S} {r : Result Text Code} (b : Bool) (p q : Inside → Act Text) → b ≡ false → Evaluates g q itself old r new → Evaluates g (λ a. cond b (p a) (q a)) itself old r new
  not_chosen {old = old} {new = new} {r = r} b p q e h = subst (λ b. Evaluates g (λ a. cond b (p a) (q a)) itself old r new) (sym e) h

  pub none_chosen : {e : Eval S} (items : List Choice) (i : ℕ) → length items ≤ i → Evaluates g (λ a. chosen a (choices_of (map choice_tree (drop i items)))) itself e (Err M4) e
  none_chosen {e = e} items i past =
      subst (λ (rest : List Choice). Evaluates g (λ a. chosen a (choices_of (map choice_tree rest))) itself e (Err M4) e) (sym (drop_of_length-le items past)) (record {
        at = λ sure out locks. record { at = λ n le. refl; fewer = omega arith };
        doubt = Doubts-same _;
        keeps = keeps_itself _;
        depth = refl;
      })
