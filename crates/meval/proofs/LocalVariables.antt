-- SPDX-License-Identifier: Apache-2.0
-- Local variables without subscripts, and nodes of local variables by one.
use Rattle.meval.proofs.EvalWords.{◌≡◌, [], ◌∷◌, None, Some, Zover, Result, Ok, Err, refl, sym, subst, slice_get, IsErr, IsErrAnd, Direction, are_subscripts}
use Rattle.meval.proofs.EvalWords.{significant_digits, numeric_value, number_text, Act, ◌>>=◌, ◌>>◌, charge, get_local, give, unless, value_of, ExprTree}
use Rattle.meval.proofs.EvalWords.{ExprsTree, number, reference, local, no_exprs, exprs, as_text, Inside, value, values, evaluated, primary_value, Evaluated}
use Rattle.meval.proofs.EvalWords.{Place, ordering, of_local, at_local, checked, resolve, direction_of, next_at, Yields, assoc, units, Num, Ghosts, fault_of}
use Rattle.meval.proofs.EvalWords.{Code, Eval, Evaluates, direction_act, data_act, get_act, read_act, read_or, unwrap_or, order_from, order_behind, true, List}
use Rattle.meval.proofs.EvalWords.{VariableFunctionTree, data_function, get_function, name_function, order_function, variable_function_value, name_behind, Text}
use Rattle.meval.proofs.EvalWords.{ℤ, Option, whole_at, named, most_act}
use Rattle.mgrammar.specs.Functions.{increment_function, query_function}
use Rattle.mspec.specs.Code as spec
use Rattle.meval.specs.Counters.{increment_behind}
use Rattle.meval.specs.Queries.{query_behind}
use Rattle.moperator.specs.declared.code.Code.TheVariants as code
use Rattle.meval.proofs.Calls.{evaluates_then, evaluates_failed, evaluates_stopped, evaluates_gives, evaluates_yielded, evaluates_fails}
use Rattle.meval.proofs.Asking.{passes}

-- the text of a number
abbrev pub written : Num → Text
written n = number_text (units n)

-- what $GET does with its place
abbrev pub got : ExprsTree → Inside → Place → Act Text
got more i p = values i [] more >>= (λ xs. read_or (unwrap_or (slice_get xs 0) []) p)

module _ {S : Type 0} {g : Ghosts S} where
  -- a variable without subscripts has nothing to evaluate, and no check refuses it
  pub variable_told : {X : Type 0} {f : X → Text} {old new : Eval S} {r : Result X Code} (name : Text) → Evaluates g (λ i. get_local name []) f old r new → Evaluates g (λ i. evaluated i (local name no_exprs) >>= read_act) f old r new
  unfolding value_of
  variable_told name d = d

  pub variable_primary : {X : Type 0} {f : X → Text} {old mid new : Eval S} {r : Result X Code} (name : Text) → Evaluates g (λ i. charge) (λ (u : Unit {0}). u) old (Ok tt) mid → Evaluates g (λ i. get_local name []) f mid r new
      → Evaluates g (λ i. primary_value i (reference (local name no_exprs))) f old r new
  variable_primary name charged d = evaluates_then (λ i _. evaluated i (local name no_exprs) >>= read_act) charged (variable_told name d)

  -- a number as it is written
  module _ {old new : Eval S} (literal : Text) where
    pub number_told : (n : Num) → numeric_value significant_digits literal ≡ Some (units n) → Evaluates g (λ i. charge) (λ (u : Unit {0}). u) old (Ok tt) new
        → Evaluates g (λ i. primary_value i (number literal)) (λ (t : Text). t) old (Ok (written n)) new
    number_told n is charged =
        evaluates_then (λ i _. as_text (numeric_value significant_digits literal)) charged
        (subst (λ m. Evaluates g (λ i. as_text m) (λ (t : Text). t) new (Ok (written n)) new) (sym is) (evaluates_gives (written n) (λ (t : Text). t) _ refl))

    pub number_refused : numeric_value significant_digits literal ≡ None → Evaluates g (λ i. charge) (λ (u : Unit {0}). u) old (Ok tt) new
        → Evaluates g (λ i. primary_value i (number literal)) (λ (t : Text). t) old (Err code.Zover) new
    number_refused is charged =
        evaluates_then (λ i _. as_text (numeric_value significant_digits literal)) charged
        (subst (λ m. Evaluates g (λ i. as_text m) (λ (t : Text). t) new (Err code.Zover) new) (sym is) (evaluates_fails (λ (t : Text). t) Zover code.Zover refl))

  -- ---- one subscript

  module _ {X : Type 0} {f : X → Text} (name : Text) (e : ExprTree) where
    pub node_evaluated : {old new : Eval S} (x : X) → Evaluates g (λ i. value i e) f old (Ok x) new
        → Evaluates g (λ i. evaluated i (local name (exprs e no_exprs))) (λ (v : Evaluated). v) old (Ok (of_local name (f x ∷ []))) new
    node_evaluated x d =
        let values_given = evaluates_then (λ i x. give (x ∷ [])) d (evaluates_gives (f x ∷ []) (λ (xs : List Text). xs) (f x ∷ []) refl) in
        evaluates_then (λ i xs. give (of_local name xs)) values_given (evaluates_gives (of_local name (f x ∷ [])) (λ (v : Evaluated). v) _ refl)

    pub node_failed : {old new : Eval S} (c : Code) → Evaluates g (λ i. value i e) f old (Err c) new → Evaluates g (λ i. evaluated i (local name (exprs e no_exprs))) (λ (v : Evaluated). v) old (Err c) new
    node_failed {old = old} {new = new} c d =
        let values_failed : Evaluates g (λ i. values i [] (exprs e no_exprs)) (λ (xs : List Text). xs) old (Err c) new = evaluates_failed (λ i x. give (x ∷ [])) d in
        evaluates_failed (λ i xs. give (of_local name xs)) values_failed

  -- a function of a variable that is not evaluated
  pub function_failed : {old new : Eval S} {p : Inside → Act Evaluated} {c : Code} (f : VariableFunctionTree) (more : ExprsTree) → Evaluates g p (λ (v : Evaluated). v) old (Err c) new
      → Evaluates g (λ i. variable_function_value i.account f (p i) (values i [] more)) (λ (t : Text). t) old (Err c) new
  function_failed data_function more d = evaluates_failed (λ i v. data_act v) d
  function_failed get_function more d = evaluates_failed (get_act more) d
  function_failed increment_function more d = evaluates_failed (increment_behind more) d
  function_failed name_function more d = evaluates_failed (name_behind more) d
  function_failed order_function more d = evaluates_failed (order_behind more) d
  function_failed query_function more d = evaluates_failed (query_behind more) d

  -- once it is let through
  pub let_through : {e : Eval S} (name : Text) (xs : List Text) → are_subscripts xs ≡ true → Evaluates g (λ i. unless spec.Zsub (are_subscripts xs) >> give (at_local name xs)) (λ (p : Place). p) e (Ok (at_local name xs)) e
  let_through name xs is = evaluates_then (λ i _. give (at_local name xs)) (passes spec.Zsub _ is) (evaluates_gives (at_local name xs) (λ (p : Place). p) _ refl)

  -- ---- one act after another, whatever follows

  pub regrouped : {A B C X : Type 0} {f : X → C} {old new : Eval S} {r : Result X Code} (p : Inside → Act A) (q : Inside → A → Act B) (k : Inside → B → Act C)
      → Evaluates g (λ i. (p i >>= q i) >>= k i) f old r new → Evaluates g (λ i. p i >>= (λ a. q i a >>= k i)) f old r new
  regrouped {f = f} {old = old} {new = new} {r = r} p q k d = subst (λ act. Evaluates g act f old r new) (λ j i. assoc (p i) (q i) (k i) j) d

  pub grouped : {A B C X : Type 0} {f : X → C} {old new : Eval S} {r : Result X Code} (p : Inside → Act A) (q : Inside → A → Act B) (k : Inside → B → Act C)
      → Evaluates g (λ i. p i >>= (λ a. q i a >>= k i)) f old r new → Evaluates g (λ i. (p i >>= q i) >>= k i) f old r new
  grouped {f = f} {old = old} {new = new} {r = r} p q k d = subst (λ act. Evaluates g act f old r new) (sym (λ j i. assoc (p i) (q i) (k i) j)) d

  -- ---- $ORDER

  module _ (more : ExprsTree) (p : Place) where
    pub ordered_next : {D : Type 0} {way : D → Direction} {old mid new : Eval S} (d : D) {r : Result Text Code} → Evaluates g (λ i. direction_act i more) way old (Ok d) mid
        → Evaluates g (λ i. next_at (way d) p) (λ (t : Text). t) mid r new → Evaluates g (λ i. order_from more i p) (λ (t : Text). t) old r new
    ordered_next d told k =
        regrouped (λ i. values i [] more) (λ i xs. direction_of (slice_get xs 0)) (λ i d. next_at d p) (evaluates_then (λ i d. next_at d p) told k)

    pub ordered_stopped : {D : Type 0} {way : D → Direction} {old new : Eval S} {c : Code} {r : Result Text Code} → Evaluates g (λ i. direction_act i more) way old (Err c) new → IsErr r × IsErrAnd r (λ x. x ≡ c)
        → Evaluates g (λ i. order_from more i p) (λ (t : Text). t) old r new
    ordered_stopped told h =
        regrouped (λ i. values i [] more) (λ i xs. direction_of (slice_get xs 0)) (λ i d. next_at d p) (evaluates_stopped (λ i d. next_at d p) told h)

  -- ---- $NAME

  module _ (more : ExprsTree) (v : Evaluated) where
    pub named_as : {old mid new : Eval S} (most : Option ℤ) {r : Result Text Code} → Evaluates g (λ i. most_act i more) (λ (m : Option ℤ). m) old (Ok most) mid
        → Evaluates g (λ i. named i.account most v) (λ (t : Text). t) mid r new → Evaluates g (λ i. name_behind more i v) (λ (t : Text). t) old r new
    named_as most told k =
        regrouped (λ i. values i [] more) (λ i xs. whole_at 0 xs) (λ i m. named i.account m v) (evaluates_then (λ i m. named i.account m v) told k)

    pub named_stopped : {old new : Eval S} {c : Code} {r : Result Text Code} → Evaluates g (λ i. most_act i more) (λ (m : Option ℤ). m) old (Err c) new
        → IsErr r × IsErrAnd r (λ x. x ≡ c) → Evaluates g (λ i. name_behind more i v) (λ (t : Text). t) old r new
    named_stopped told h =
        regrouped (λ i. values i [] more) (λ i xs. whole_at 0 xs) (λ i m. named i.account m v) (evaluates_stopped (λ i m. named i.account m v) told h)

  -- a local variable with one subscript, once $ORDER's checks let it through
  pub walk_through : {e : Eval S} (name : Text) (xs : List Text) → Yields {E = Code} fault_of (checked ordering xs) (λ (u : Unit {0}). u) (Ok tt) → Evaluates g (λ i. resolve ordering (of_local name xs)) (λ (p : Place). p) e (Ok (at_local name xs)) e
  walk_through name xs passed = evaluates_then (λ i _. give (at_local name xs)) (evaluates_yielded passed) (evaluates_gives (at_local name xs) (λ (p : Place). p) _ refl)

  pub walk_refused : {old new : Eval S} (more : ExprsTree) (name : Text) (xs : List Text) {r : Result Text Code} → Evaluates g (λ i. checked ordering xs >>= (λ _. give (at_local name xs) >>= order_from more i)) (λ (t : Text). t) old r new
      → Evaluates g (λ i. order_behind more i (of_local name xs)) (λ (t : Text). t) old r new
  walk_refused more name xs {r = r} d = grouped (λ i. checked ordering xs) (λ i _. give (at_local name xs)) (λ i p. order_from more i p) d
