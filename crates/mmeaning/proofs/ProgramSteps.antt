-- SPDX-License-Identifier: Apache-2.0
-- The steps of a program evaluate what they come from.
use Rattle.mmeaning.proofs.MeaningWords.{◌≡◌, Bool, true, false, not, cond, List, [], ◌∷◌, ◌++◌, Option, Some, None, refl, sym, ap, ◌∙◌, Text, Act}
use Rattle.mmeaning.proofs.MeaningWords.{◌>>=◌, give, ExprTree, ExprsTree, PrimaryTree, ReferenceTree, OperandTree, ActualsTree, expr, tail, no_tails, apply}
use Rattle.mmeaning.proofs.MeaningWords.{operand, number, text, reference, bracket, refer, local, global, naked, indirect, extended, exprs, no_exprs}
use Rattle.mmeaning.proofs.MeaningWords.{no_actuals, Evaluated, of_local, of_global, of_naked, Inside, Completion, Context, value, evaluated}
use Rattle.std.specs.Prelude.{ℕ, suc, ◌&&◌, length, slice_get, unwrap_or}
use Rattle.mspec.specs.Act.{◌>>◌, charge, test_is}
use Rattle.mspec.specs.Scopes.{Binding, valued}
use Rattle.mspec.specs.Interpretations.{truth_text}
use Rattle.mgrammar.specs.Grammar.{SignTree, special, call, select, extrinsic, TailsTree, TailTree, matches, matches_not, raise, matches_indirect}
use Rattle.mgrammar.specs.Grammar.{matches_not_indirect, ChoicesTree, no_choices, choice, ActualTree, missing_actual, value_actual, name_actual}
use Rattle.mgrammar.specs.Grammar.{indirect_actual, actuals}
use Rattle.mgrammar.specs.Functions.{data_function, get_function, increment_function, name_function, order_function, query_function, FunctionTree}
use Rattle.mgrammar.specs.Functions.{of_values, of_variable}
use Rattle.mgrammar.specs.Functions.{of_choices, function_of}
use Rattle.mgrammar.specs.CallsIn.{has_call, has_call_operand, has_call_primary, has_call_tail, has_call_actual, has_call_exprs}
use Rattle.mgrammar.specs.ProgramsIn.{in_steps, in_steps_tails, in_steps_tail, in_steps_operand, in_steps_primary, in_steps_reference, in_steps_exprs}
use Rattle.mgrammar.specs.ProgramsIn.{in_steps_choices, in_steps_actual, in_steps_actuals}
use Rattle.mmeaning.specs.Operators.{as_truth, unaries, binary, raising}
use Rattle.mmeaning.specs.Functions.{whole_at, call_value}
use Rattle.mmeaning.specs.Variables.{reading, ordering, querying, resolve, read_at, read_or, next_at, query_at, direction_of, added_of, incremented}
use Rattle.mmeaning.specs.Variables.{named, referring, with_more}
use Rattle.mmeaning.specs.Expression.{is_bare, linked_by, named_by, matches_text, tails_value, tail_value, operand_value, primary_value, values}
use Rattle.mmeaning.specs.Expression.{chosen, handed, all_handed, handed_over, Depth, indirected, one_deeper, attached}
use Rattle.mmeaning.specs.LineMeaning.{inside_of, answer, answering, at_depth}
use Rattle.mmeaning.specs.Programs as programs
use Rattle.mmeaning.specs.Programs.{Item, one_value, some_values, found, placed, walked, handing, Op, Operand, Tail, Join, Raise, Match, Match_not}
use Rattle.mmeaning.specs.Programs.{Values, Add, Function, Begin, Actual, Hand, Hand_name, Call, Local, Global, Naked, Extended, Named, Read, Data}
use Rattle.mmeaning.specs.Programs.{Resolve, Get, Walk, Order, Tell_name, Increment, Seek, Query, sought, outside, Deeper, Attach}
use Rattle.mmeaning.specs.Programs.{Unless, Pass}
use Rattle.mmeaning.specs.Programs.{Ending, plain, data_at, going_on, carried_past, carried, signed, referred, of_value, of_tails, of_tail, of_operand}
use Rattle.mmeaning.specs.Programs.{of_primary}
use Rattle.mmeaning.specs.Programs.{of_reference, of_actual, of_actuals, of_list}
use Rattle.mmeaning.specs.ProgramLaws.{StepsEvaluate, StepsFind}
use Rattle.std.proofs.lemmas.List.{append-nil}
use Rattle.mmeaning.proofs.Calls.{assoc, ended}
use Rattle.mmeaning.proofs.ProgramParts.{value_behind, choices_behind}
use Rattle.mmeaning.proofs.UncalledArguments.{attached_plain, operand_plain, tail_plain, handed_plain}

-- each of two
pub each_of : (a b : Bool) → a && b ≡ true → (a ≡ true) × (b ≡ true)
each_of true b h = (refl, h)
each_of false b h = absurd (let clash : false ≡ true = h in cc)

pub denied : (a : Bool) → not a ≡ true → a ≡ false
denied true h = absurd (let clash : false ≡ true = h in cc)
denied false h = refl

-- where the steps of a program stand that are so deep
abbrev standing : Context → Depth → Inside
standing x d = inside_of (at_depth x d)

module _ (x : Context) (d : Depth) (k : Ending) where
  abbrev Same : Act Completion → Act Completion → Type 0
  Same p q = ◌≡◌ {A = Act Completion} p q

  abbrev i : Inside
  i = standing x d

  -- a step that gives a stack, and those after it
  pub stepped : {A : Type 0} (p : Act A) (f : A → List Item) (ops : List Op)
      → Same ((p >>= (λ a. give (Some (f a)))) >>= going_on (carried x d ops k)) (p >>= (λ a. carried x d ops k (f a)))
  stepped p f ops = assoc p (λ a. give (Some (f a))) (going_on (carried x d ops k))

  -- one of two programs
  pub by_test : (c : Bool) (ops others : List Op) (st : List Item) (q : Act Completion)
      → (c ≡ true → Same (carried x d ops k st) q) → (c ≡ false → Same (carried x d others k st) q) → Same (carried x d (cond c ops others) k st) q
  by_test true ops others st q yes_case no_case = yes_case refl
  by_test false ops others st q yes_case no_case = no_case refl

  -- ---- what has no call

  uncalled_tail : (s : TailTree) (v : Text) (ops : List Op) (st : List Item) → has_call_tail s ≡ false
      → Same (carried x d (Tail s ∷ ops) k (one_value v ∷ st)) (tail_value i v s >>= (λ w. carried x d ops k (one_value w ∷ st)))
  uncalled_tail s v ops st n =
      stepped (tail_value (plain (at_depth x d)) v s) (λ w. one_value w ∷ st) ops
      ∙ (λ j. sym (tail_plain x.account x.fuel d (answering (at_depth x d)) v s n) j >>= (λ w. carried x d ops k (one_value w ∷ st)))

  uncalled_operand : (o : OperandTree) (ops : List Op) (st : List Item) → has_call_operand o ≡ false
      → Same (carried x d (Operand o ∷ ops) k st) (operand_value i o >>= (λ v. carried x d ops k (one_value v ∷ st)))
  uncalled_operand o ops st n =
      stepped (operand_value (plain (at_depth x d)) o) (λ v. one_value v ∷ st) ops
      ∙ (λ j. sym (operand_plain x.account x.fuel d (answering (at_depth x d)) o n) j >>= (λ v. carried x d ops k (one_value v ∷ st)))

  uncalled_primary : (p : PrimaryTree) (ops : List Op) (st : List Item) → has_call_primary p ≡ false
      → Same (carried x d (Operand (operand [] p) ∷ ops) k st) (primary_value i p >>= (λ v. carried x d ops k (one_value v ∷ st)))
  uncalled_primary p ops st n =
      uncalled_operand (operand [] p) ops st n
      ∙ (λ j. ended (primary_value i p) j >>= (λ v. carried x d ops k (one_value v ∷ st)))

  uncalled_actual : (a : ActualTree) (b : Bool) (bs : List Binding) (ops : List Op) (st : List Item) → has_call_actual a ≡ false
      → Same (carried x d (Actual a ∷ ops) k (handing b bs ∷ st)) (handed i a >>= (λ h. carried x d ops k (handing b (bs ++ h ∷ []) ∷ st)))
  uncalled_actual a b bs ops st n =
      stepped (handed (plain (at_depth x d)) a) (λ h. handing b (bs ++ h ∷ []) ∷ st) ops
      ∙ (λ j. sym (handed_plain x.account x.fuel d (answering (at_depth x d)) a n) j >>= (λ h. carried x d ops k (handing b (bs ++ h ∷ []) ∷ st)))

  signs_carried : (signs : List SignTree) (v : Text) (ops : List Op) (st : List Item)
      → Same (carried x d (signed signs ops) k (one_value v ∷ st)) (unaries signs v >>= (λ w. carried x d ops k (one_value w ∷ st)))
  signs_carried [] v ops st = refl
  signs_carried (s ∷ ss) v ops st = stepped (unaries (s ∷ ss) v) (λ w. one_value w ∷ st) ops

  -- ---- steps that are passed by

  -- all of these
  all_past : (ops rest : List Op) (st : List Item) → Same (carried_past x d (length ops) (ops ++ rest) k st) (carried x d rest k st)
  all_past [] rest st = refl
  all_past (o ∷ ops) rest st = all_past ops rest st

  -- and the one after them
  one_more_past : (ops : List Op) (o : Op) (rest : List Op) (st : List Item)
      → Same (carried_past x d (suc (length ops)) (ops ++ o ∷ rest) k st) (carried x d rest k st)
  one_more_past [] o rest st = refl
  one_more_past (p ∷ ops) o rest st = one_more_past ops o rest st

  -- ---- variables

  -- what has a value in the end, once something is there
  behind_it : {A : Type 0} (p : Act A) (f : A → Act Text) (ops : List Op) (st : List Item) (rest : A → Act Completion)
      → ((a : A) → Same (rest a) (f a >>= (λ w. carried x d ops k (one_value w ∷ st))))
      → Same (p >>= rest) ((p >>= f) >>= (λ w. carried x d ops k (one_value w ∷ st)))
  behind_it p f ops st rest h = (λ j. p >>= (λ a. h a j)) ∙ sym (assoc p f (λ w. carried x d ops k (one_value w ∷ st)))

  module _ (variable : Act Evaluated) (more : Act (List Text)) (of_it of_more : List Op → List Op)
      (found_there : (ops : List Op) (st : List Item) → Same (carried x d (of_it ops) k st) (variable >>= (λ v. carried x d ops k (found v ∷ st))))
      (values_there : (ops : List Op) (st : List Item)
      → Same (carried x d (of_more ops) k (some_values [] ∷ st)) (more >>= (λ vs. carried x d ops k (some_values vs ∷ st)))) where
    get_carried : (v : Evaluated) (ops : List Op) (st : List Item)
        → Same (carried x d (Resolve ∷ Values ∷ of_more (Get ∷ ops)) k (found v ∷ st))
        ((resolve reading v >>= (λ p. more >>= (λ xs. read_or (unwrap_or (slice_get xs 0) []) p))) >>= (λ w. carried x d ops k (one_value w ∷ st)))
    get_carried v ops st =
        stepped (resolve reading v) (λ p. placed p ∷ st) (Values ∷ of_more (Get ∷ ops))
        ∙ behind_it (resolve reading v) (λ p. more >>= (λ xs. read_or (unwrap_or (slice_get xs 0) []) p)) ops st
        (λ p. carried x d (Values ∷ of_more (Get ∷ ops)) k (placed p ∷ st)) (λ p.
        values_there (Get ∷ ops) (placed p ∷ st)
        ∙ behind_it more (λ xs. read_or (unwrap_or (slice_get xs 0) []) p) ops st (λ xs. carried x d (Get ∷ ops) k (some_values xs ∷ placed p ∷ st)) (λ xs.
        stepped (read_or (unwrap_or (slice_get xs 0) []) p) (λ w. one_value w ∷ st) ops))

    order_carried : (v : Evaluated) (ops : List Op) (st : List Item)
        → Same (carried x d (Walk ∷ Values ∷ of_more (Order ∷ ops)) k (found v ∷ st))
        ((resolve ordering v >>= (λ p. more >>= (λ xs. direction_of (slice_get xs 0) >>= (λ d. next_at d p))))
        >>= (λ w. carried x d ops k (one_value w ∷ st)))
    order_carried v ops st =
        stepped (resolve ordering v) (λ p. walked p ∷ st) (Values ∷ of_more (Order ∷ ops))
        ∙ behind_it (resolve ordering v) (λ p. more >>= (λ xs. direction_of (slice_get xs 0) >>= (λ d. next_at d p))) ops st
        (λ p. carried x d (Values ∷ of_more (Order ∷ ops)) k (walked p ∷ st)) (λ p.
        values_there (Order ∷ ops) (walked p ∷ st)
        ∙ behind_it more (λ xs. direction_of (slice_get xs 0) >>= (λ d. next_at d p)) ops st
        (λ xs. carried x d (Order ∷ ops) k (some_values xs ∷ walked p ∷ st)) (λ xs.
        stepped (direction_of (slice_get xs 0) >>= (λ d. next_at d p)) (λ w. one_value w ∷ st) ops))

    query_carried : (v : Evaluated) (ops : List Op) (st : List Item)
        → Same (carried x d (Seek ∷ Values ∷ of_more (Query ∷ ops)) k (found v ∷ st))
        ((resolve querying v >>= (λ p. more >>= (λ xs. direction_of (slice_get xs 0) >>= (λ d. query_at x.account d p))))
        >>= (λ w. carried x d ops k (one_value w ∷ st)))
    query_carried v ops st =
        stepped (resolve querying v) (λ p. sought p ∷ st) (Values ∷ of_more (Query ∷ ops))
        ∙ behind_it (resolve querying v) (λ p. more >>= (λ xs. direction_of (slice_get xs 0) >>= (λ d. query_at x.account d p))) ops st
        (λ p. carried x d (Values ∷ of_more (Query ∷ ops)) k (sought p ∷ st)) (λ p.
        values_there (Query ∷ ops) (sought p ∷ st)
        ∙ behind_it more (λ xs. direction_of (slice_get xs 0) >>= (λ d. query_at x.account d p)) ops st
        (λ xs. carried x d (Query ∷ ops) k (some_values xs ∷ sought p ∷ st)) (λ xs.
        stepped (direction_of (slice_get xs 0) >>= (λ d. query_at x.account d p)) (λ w. one_value w ∷ st) ops))

    name_carried : (v : Evaluated) (ops : List Op) (st : List Item)
        → Same (carried x d (Values ∷ of_more (Tell_name ∷ ops)) k (found v ∷ st))
        ((more >>= (λ xs. whole_at 0 xs >>= (λ most. named x.account most v))) >>= (λ w. carried x d ops k (one_value w ∷ st)))
    name_carried v ops st =
        values_there (Tell_name ∷ ops) (found v ∷ st)
        ∙ behind_it more (λ xs. whole_at 0 xs >>= (λ most. named x.account most v)) ops st
        (λ xs. carried x d (Tell_name ∷ ops) k (some_values xs ∷ found v ∷ st)) (λ xs.
        stepped (whole_at 0 xs >>= (λ most. named x.account most v)) (λ w. one_value w ∷ st) ops)

    increment_carried : (v : Evaluated) (ops : List Op) (st : List Item)
        → Same (carried x d (Values ∷ of_more (Increment ∷ ops)) k (found v ∷ st))
        ((more >>= (λ xs. added_of (slice_get xs 0) >>= (λ by. incremented by v))) >>= (λ w. carried x d ops k (one_value w ∷ st)))
    increment_carried v ops st =
        values_there (Increment ∷ ops) (found v ∷ st)
        ∙ behind_it more (λ xs. added_of (slice_get xs 0) >>= (λ by. incremented by v)) ops st
        (λ xs. carried x d (Increment ∷ ops) k (some_values xs ∷ found v ∷ st)) (λ xs.
        stepped (added_of (slice_get xs 0) >>= (λ by. incremented by v)) (λ w. one_value w ∷ st) ops)

    referred_carried : (f : Option FunctionTree) (ops : List Op) (st : List Item)
        → Same (carried x d (referred f of_it of_more ops) k st) (referring x.account f variable more >>= (λ w. carried x d ops k (one_value w ∷ st)))
    referred_carried None ops st = refl
    referred_carried (Some (of_values f least most)) ops st = refl
    referred_carried (Some (of_variable data_function most)) ops st =
        found_there (Data ∷ ops) st
        ∙ behind_it variable (λ v. resolve reading v >>= data_at) ops st _ (λ v. stepped (resolve reading v >>= data_at) (λ w. one_value w ∷ st) ops)
    referred_carried (Some (of_variable get_function most)) ops st =
        found_there (Resolve ∷ Values ∷ of_more (Get ∷ ops)) st
        ∙ behind_it variable (λ v. resolve reading v >>= (λ p. more >>= (λ xs. read_or (unwrap_or (slice_get xs 0) []) p))) ops st _
        (λ v. get_carried v ops st)
    referred_carried (Some (of_variable increment_function most)) ops st =
        found_there (Values ∷ of_more (Increment ∷ ops)) st
        ∙ behind_it variable (λ v. more >>= (λ xs. added_of (slice_get xs 0) >>= (λ by. incremented by v))) ops st _ (λ v. increment_carried v ops st)
    referred_carried (Some (of_variable name_function most)) ops st =
        found_there (Values ∷ of_more (Tell_name ∷ ops)) st
        ∙ behind_it variable (λ v. more >>= (λ xs. whole_at 0 xs >>= (λ most. named x.account most v))) ops st _ (λ v. name_carried v ops st)
    referred_carried (Some (of_variable order_function most)) ops st =
        found_there (Walk ∷ Values ∷ of_more (Order ∷ ops)) st
        ∙ behind_it variable (λ v. resolve ordering v >>= (λ p. more >>= (λ xs. direction_of (slice_get xs 0) >>= (λ d. next_at d p)))) ops st _
        (λ v. order_carried v ops st)
    referred_carried (Some (of_variable query_function most)) ops st =
        found_there (Seek ∷ Values ∷ of_more (Query ∷ ops)) st
        ∙ behind_it variable (λ v. resolve querying v >>= (λ p. more >>= (λ xs. direction_of (slice_get xs 0) >>= (λ d. query_at x.account d p)))) ops st _
        (λ v. query_carried v ops st)
    referred_carried (Some of_choices) ops st = refl

  -- ---- $SELECT

  -- the value of a choice, or the choices after it
  choice_went : (b : Bool) (n : ℕ) (both ops : List Op) (p q : Act Text) (st : List Item)
      → Same (carried x d both k st) (p >>= (λ w. carried x d ops k (one_value w ∷ st)))
      → Same (carried_past x d n both k st) (q >>= (λ w. carried x d ops k (one_value w ∷ st)))
      → Same (carried_past x d (cond b 0 n) both k st) (cond b p q >>= (λ w. carried x d ops k (one_value w ∷ st)))
  choice_went true n both ops p q st yes_case no_case = yes_case
  choice_went false n both ops p q st yes_case no_case = no_case

  -- ---- actuals

  -- the list of a function, or of DO, once its actuals are there
  list_of : (c : Bool) (b : Bool) (ops others : List Op) (p : Act (List Binding)) (st : List Item)
      → Same (carried x d others k (handing b [] ∷ st)) (p >>= (λ bs. carried x d ops k (handing b bs ∷ st)))
      → Same (carried x d (cond c ops others) k (handing b [] ∷ st)) (cond c (give []) p >>= (λ bs. carried x d ops k (handing b bs ∷ st)))
  list_of true b ops others p st h = refl
  list_of false b ops others p st h = h

  -- ---- subscripts after an indirection

  attach_carried : (r : Evaluated) (p : Act (List Text)) (ops : List Op) (st : List Item) (rest : Act Completion)
      → Same rest (p >>= (λ vs. carried x d ops k (found (with_more vs r) ∷ st)))
      → Same rest ((p >>= (λ vs. give (with_more vs r))) >>= (λ v. carried x d ops k (found v ∷ st)))
  attach_carried r p ops st rest h = h ∙ sym (assoc p (λ vs. give (with_more vs r)) (λ v. carried x d ops k (found v ∷ st)))

-- ---- expressions

mutual
  pub value_carried : (x : Context) (d : Depth) (k : Ending) (e : ExprTree) (ops : List Op) (st : List Item) → in_steps e ≡ true
      → Same x d k (carried x d (of_value e ops) k st) (value (standing x d) e >>= (λ v. carried x d ops k (one_value v ∷ st)))
  value_carried x d k (expr first rest) ops st h =
      let m = each_of (in_steps_operand first) (in_steps_tails rest) h in
      operand_carried x d k first (of_tails rest ops) st m.0
      ∙ (λ j. operand_value (standing x d) first >>= (λ v. tails_carried x d k rest v ops st m.1 j))
      ∙ sym (assoc (operand_value (standing x d) first) (λ v. tails_value (standing x d) v rest) (λ v. carried x d ops k (one_value v ∷ st)))

  tails_carried : (x : Context) (d : Depth) (k : Ending) (s : TailsTree) (v : Text) (ops : List Op) (st : List Item) → in_steps_tails s ≡ true
      → Same x d k (carried x d (of_tails s ops) k (one_value v ∷ st)) (tails_value (standing x d) v s >>= (λ w. carried x d ops k (one_value w ∷ st)))
  tails_carried x d k no_tails v ops st h = refl
  tails_carried x d k (tail s rest) v ops st h =
      let m = each_of (in_steps_tail s) (in_steps_tails rest) h in
      tail_carried x d k s v (of_tails rest ops) st m.0
      ∙ (λ j. tail_value (standing x d) v s >>= (λ w. tails_carried x d k rest w ops st m.1 j))
      ∙ sym (assoc (tail_value (standing x d) v s) (λ w. tails_value (standing x d) w rest) (λ w. carried x d ops k (one_value w ∷ st)))

  tail_carried : (x : Context) (d : Depth) (k : Ending) (s : TailTree) (v : Text) (ops : List Op) (st : List Item) → in_steps_tail s ≡ true
      → Same x d k (carried x d (of_tail s ops) k (one_value v ∷ st)) (tail_value (standing x d) v s >>= (λ w. carried x d ops k (one_value w ∷ st)))
  tail_carried x d k (apply b o) v ops st h = by_test x d k (has_call_operand o) (of_operand o (Join b ∷ ops)) (Tail (apply b o) ∷ ops) (one_value v ∷ st) _
      (λ c. operand_carried x d k o (Join b ∷ ops) (one_value v ∷ st) h
      ∙ (λ j. operand_value (standing x d) o >>= (λ y. stepped x d k (binary b v y) (λ w. one_value w ∷ st) ops j))
      ∙ sym (assoc (operand_value (standing x d) o) (λ y. binary b v y) (λ w. carried x d ops k (one_value w ∷ st))))
      (λ n. uncalled_tail x d k (apply b o) v ops st n)
  tail_carried x d k (raise o) v ops st h = by_test x d k (has_call_operand o) (of_operand o (Raise ∷ ops)) (Tail (raise o) ∷ ops) (one_value v ∷ st) _
      (λ c. operand_carried x d k o (Raise ∷ ops) (one_value v ∷ st) h
      ∙ (λ j. operand_value (standing x d) o >>= (λ y. stepped x d k (raising v y) (λ w. one_value w ∷ st) ops j))
      ∙ sym (assoc (operand_value (standing x d) o) (λ y. raising v y) (λ w. carried x d ops k (one_value w ∷ st))))
      (λ n. uncalled_tail x d k (raise o) v ops st n)
  tail_carried x d k (matches atoms) v ops st h = uncalled_tail x d k (matches atoms) v ops st refl
  tail_carried x d k (matches_not atoms) v ops st h = uncalled_tail x d k (matches_not atoms) v ops st refl
  tail_carried x d k (matches_indirect p) v ops st h = by_test x d k (has_call_primary p)
      (of_primary p (Match ∷ ops)) (Tail (matches_indirect p) ∷ ops) (one_value v ∷ st) _
      (λ c. primary_carried x d k p (Match ∷ ops) (one_value v ∷ st) h
      ∙ behind_it x d k (primary_value (standing x d) p) (λ t. matches_text (standing x d) v t >>= (λ b. give (truth_text b))) ops st _ (λ t.
      stepped x d k (matches_text (plain (at_depth x d)) v t) (λ b. one_value (truth_text b) ∷ st) ops
      ∙ sym (assoc (matches_text (standing x d) v t) (λ b. give (truth_text b)) (λ w. carried x d ops k (one_value w ∷ st)))))
      (λ n. uncalled_tail x d k (matches_indirect p) v ops st n)
  tail_carried x d k (matches_not_indirect p) v ops st h = by_test x d k (has_call_primary p)
      (of_primary p (Match_not ∷ ops)) (Tail (matches_not_indirect p) ∷ ops) (one_value v ∷ st) _
      (λ c. primary_carried x d k p (Match_not ∷ ops) (one_value v ∷ st) h
      ∙ behind_it x d k (primary_value (standing x d) p) (λ t. matches_text (standing x d) v t >>= (λ b. give (truth_text (not b)))) ops st _ (λ t.
      stepped x d k (matches_text (plain (at_depth x d)) v t) (λ b. one_value (truth_text (not b)) ∷ st) ops
      ∙ sym (assoc (matches_text (standing x d) v t) (λ b. give (truth_text (not b))) (λ w. carried x d ops k (one_value w ∷ st)))))
      (λ n. uncalled_tail x d k (matches_not_indirect p) v ops st n)

  operand_carried : (x : Context) (d : Depth) (k : Ending) (o : OperandTree) (ops : List Op) (st : List Item) → in_steps_operand o ≡ true
      → Same x d k (carried x d (of_operand o ops) k st) (operand_value (standing x d) o >>= (λ v. carried x d ops k (one_value v ∷ st)))
  operand_carried x d k (operand signs p) ops st h = by_test x d k (has_call_primary p) (of_primary p (signed signs ops)) (Operand (operand signs p) ∷ ops) st _
      (λ c. primary_carried x d k p (signed signs ops) st h
      ∙ (λ j. primary_value (standing x d) p >>= (λ v. signs_carried x d k signs v ops st j))
      ∙ sym (assoc (primary_value (standing x d) p) (λ v. unaries signs v) (λ v. carried x d ops k (one_value v ∷ st))))
      (λ n. uncalled_operand x d k (operand signs p) ops st n)

  pub primary_carried : (x : Context) (d : Depth) (k : Ending) (p : PrimaryTree) (ops : List Op) (st : List Item) → in_steps_primary p ≡ true
      → Same x d k (carried x d (of_primary p ops) k st) (primary_value (standing x d) p >>= (λ v. carried x d ops k (one_value v ∷ st)))
  primary_carried x d k (number literal) ops st h = uncalled_primary x d k (number literal) ops st refl
  primary_carried x d k (text t) ops st h = uncalled_primary x d k (text t) ops st refl
  primary_carried x d k (special word) ops st h = uncalled_primary x d k (special word) ops st refl
  primary_carried x d k (reference r) ops st h =
      stepped x d k charge (λ u. st) (of_reference r (Read ∷ ops))
      ∙ behind_it x d k charge (λ u. evaluated (standing x d) r >>= (λ v. resolve reading v >>= read_at)) ops st _ (λ u.
      reference_carried x d k r (Read ∷ ops) st h
      ∙ behind_it x d k (evaluated (standing x d) r) (λ v. resolve reading v >>= read_at) ops st _ (λ v.
      stepped x d k (resolve reading v >>= read_at) (λ w. one_value w ∷ st) ops))
  primary_carried x d k (bracket e) ops st h =
      stepped x d k charge (λ u. st) (of_value e ops)
      ∙ (λ j. charge >> value_carried x d k e ops st h j)
      ∙ sym (assoc charge (λ u. value (standing x d) e) (λ v. carried x d ops k (one_value v ∷ st)))
  primary_carried x d k (call word args) ops st h =
      stepped x d k charge (λ u. st) (Values ∷ programs.of_values args (Function word ∷ ops))
      ∙ (λ j. charge >> values_carried x d k args [] (Function word ∷ ops) st h j)
      ∙ (λ j. charge >> (values (standing x d) [] args >>= (λ vs. stepped x d k (call_value word vs) (λ v. one_value v ∷ st) ops j)))
      ∙ (λ j. charge >> sym (assoc (values (standing x d) [] args) (λ vs. call_value word vs) (λ v. carried x d ops k (one_value v ∷ st))) j)
      ∙ sym (assoc charge (λ u. values (standing x d) [] args >>= (λ vs. call_value word vs)) (λ v. carried x d ops k (one_value v ∷ st)))
  primary_carried x d k (select word choices) ops st h =
      stepped x d k charge (λ u. st) (programs.of_choices choices ops)
      ∙ behind_it x d k charge (λ u. chosen (standing x d) choices) ops st _ (λ u. choices_carried x d k choices ops st h)
  primary_carried x d k (refer word r more) ops st h =
      let m = each_of (in_steps_reference r) (in_steps_exprs more) h in
      stepped x d k charge (λ u. st) (referred (function_of word) (of_reference r) (programs.of_values more) ops)
      ∙ behind_it x d k charge (λ u. referring x.account (function_of word) (evaluated (standing x d) r) (values (standing x d) [] more)) ops st _ (λ u.
      referred_carried x d k (evaluated (standing x d) r) (values (standing x d) [] more) (of_reference r) (programs.of_values more)
      (λ rest below. reference_carried x d k r rest below m.0) (λ rest below. values_carried x d k more [] rest below m.1) (function_of word) ops st)
  primary_carried x d k (extrinsic e xs) ops st h =
      stepped x d k charge (λ u. st) (Begin ∷ cond (is_bare xs) (Call e ∷ ops) (of_actuals xs (Call e ∷ ops)))
      ∙ (λ j. charge >> (test_is >>= (λ b.
      list_of x d k (is_bare xs) b (Call e ∷ ops) (of_actuals xs (Call e ∷ ops)) (all_handed (standing x d) [] xs) st (actuals_carried x d k xs b []
      (Call e ∷ ops) st h) j)))
      ∙ (λ j. charge >> (test_is >>= (λ b. handed_over (standing x d) xs >>= (λ bs. stepped x d k (answer (at_depth x d) e bs b) (λ v. one_value v ∷ st) ops j))))
      ∙ (λ j. charge >>
      (test_is >>= (λ b. sym (assoc (handed_over (standing x d) xs) (λ bs. answer (at_depth x d) e bs b) (λ v. carried x d ops k (one_value v ∷ st))) j)))
      ∙ (λ j. charge >> sym
      (assoc test_is (λ b. handed_over (standing x d) xs >>= (λ bs. answer (at_depth x d) e bs b)) (λ v. carried x d ops k (one_value v ∷ st))) j)
      ∙ sym (assoc charge (λ u. answering (at_depth x d) d e (handed_over (standing x d) xs)) (λ v. carried x d ops k (one_value v ∷ st)))

  pub reference_carried : (x : Context) (d : Depth) (k : Ending) (r : ReferenceTree) (ops : List Op) (st : List Item) → in_steps_reference r ≡ true
      → Same x d k (carried x d (of_reference r ops) k st) (evaluated (standing x d) r >>= (λ v. carried x d ops k (found v ∷ st)))
  reference_carried x d k (local name subscripts) ops st h =
      values_carried x d k subscripts [] (Local name ∷ ops) st h
      ∙ sym (assoc (values (standing x d) [] subscripts) (λ vs. give (of_local name vs)) (λ v. carried x d ops k (found v ∷ st)))
  reference_carried x d k (global name subscripts) ops st h =
      values_carried x d k subscripts [] (Global name ∷ ops) st h
      ∙ sym (assoc (values (standing x d) [] subscripts) (λ vs. give (of_global (record { account = x.account; name = name; subscripts = vs })))
      (λ v. carried x d ops k (found v ∷ st)))
  reference_carried x d k (naked subscripts) ops st h =
      values_carried x d k subscripts [] (Naked ∷ ops) st h
      ∙ sym (assoc (values (standing x d) [] subscripts) (λ vs. give (of_naked vs)) (λ v. carried x d ops k (found v ∷ st)))
  reference_carried x d k (indirect p subscripts) ops st h =
      let m = each_of (in_steps_primary p) (in_steps_exprs subscripts) h in
      by_test x d k (has_call_exprs subscripts)
      (of_primary p (Deeper ∷ Values ∷ programs.of_values subscripts (Attach ∷ ops))) (of_primary p (Named subscripts ∷ ops)) st _
      (λ c. primary_carried x d k p (Deeper ∷ Values ∷ programs.of_values subscripts (Attach ∷ ops)) st m.0
      ∙ (λ j. primary_value (standing x d) p >>=
      (λ t. named_by (standing x d) t >>= (λ r. attach_carried x d k r (values (one_deeper (standing x d)) [] subscripts) ops st _
      (values_carried x (indirected d) k subscripts [] (Attach ∷ ops) (outside d r ∷ st) m.1) j)))
      ∙ (λ j. primary_value (standing x d) p >>= (λ t.
      sym (assoc (named_by (standing x d) t) (λ r. values (one_deeper (standing x d)) [] subscripts >>= (λ ws. give (with_more ws r)))
      (λ v. carried x d ops k (found v ∷ st))) j))
      ∙ sym (assoc (primary_value (standing x d) p) (λ t. attached (standing x d) subscripts t) (λ v. carried x d ops k (found v ∷ st))))
      (λ none. primary_carried x d k p (Named subscripts ∷ ops) st m.0
      ∙ (λ j. primary_value (standing x d) p >>= (λ t. stepped x d k (attached (plain (at_depth x d)) subscripts t) (λ v. found v ∷ st) ops j))
      ∙ (λ j. primary_value (standing x d) p >>= (λ t. sym (attached_plain x.account x.fuel d (answering (at_depth x d)) subscripts t none) j
      >>= (λ v. carried x d ops k (found v ∷ st))))
      ∙ sym (assoc (primary_value (standing x d) p) (λ t. attached (standing x d) subscripts t) (λ v. carried x d ops k (found v ∷ st))))
  reference_carried x d k (extended e name subscripts) ops st h =
      let m = each_of (in_steps e) (in_steps_exprs subscripts) h in
      value_carried x d k e (Values ∷ programs.of_values subscripts (Extended name ∷ ops)) st m.0
      ∙ (λ j. value (standing x d) e >>= (λ owner. values_carried x d k subscripts [] (Extended name ∷ ops) (one_value owner ∷ st) m.1 j))
      ∙ (λ j. value (standing x d) e >>= (λ owner. sym (assoc (values (standing x d) [] subscripts)
      (λ vs. give (of_global (record { account = owner; name = name; subscripts = vs }))) (λ v. carried x d ops k (found v ∷ st))) j))
      ∙ sym (assoc (value (standing x d) e)
      (λ owner. values (standing x d) [] subscripts >>= (λ vs. give (of_global (record { account = owner; name = name; subscripts = vs }))))
      (λ v. carried x d ops k (found v ∷ st)))

  choices_carried : (x : Context) (d : Depth) (k : Ending) (s : ChoicesTree) (ops : List Op) (st : List Item) → in_steps_choices s ≡ true
      → Same x d k (carried x d (programs.of_choices s ops) k st) (chosen (standing x d) s >>= (λ v. carried x d ops k (one_value v ∷ st)))
  choices_carried x d k no_choices ops st h = refl
  choices_carried x d k (choice c v rest) ops st h =
      let m = each_of (in_steps c) (in_steps v && in_steps_choices rest) h in
      let l = each_of (in_steps v) (in_steps_choices rest) m.1 in
      let later : List Op = programs.of_choices rest ops in
      let passes : Op = Pass (length (programs.of_choices rest [])) in
      value_carried x d k c (Unless (suc (length (of_value v []))) ∷ of_value v (passes ∷ later)) st m.0
      ∙ behind_it x d k (value (standing x d) c) (λ t. as_truth t >>= (λ b. cond b (value (standing x d) v) (chosen (standing x d) rest))) ops st _ (λ t.
      behind_it x d k (as_truth t) (λ b. cond b (value (standing x d) v) (chosen (standing x d) rest)) ops st _ (λ b.
      choice_went x d k b (suc (length (of_value v []))) (of_value v (passes ∷ later)) ops (value (standing x d) v) (chosen (standing x d) rest) st
      (value_carried x d k v (passes ∷ later) st l.0
      ∙ (λ j. value (standing x d) v >>= (λ w. carried_past x d (length (programs.of_choices rest [])) (choices_behind rest [] ops j) k (one_value w ∷ st)))
      ∙ (λ j. value (standing x d) v >>= (λ w. all_past x d k (programs.of_choices rest []) ops (one_value w ∷ st) j)))
      ((λ j. carried_past x d (suc (length (of_value v []))) (value_behind v [] (passes ∷ later) j) k st)
      ∙ one_more_past x d k (of_value v []) passes later st
      ∙ choices_carried x d k rest ops st l.1)))

  pub values_carried : (x : Context) (d : Depth) (k : Ending) (es : ExprsTree) (vs : List Text) (ops : List Op) (st : List Item) → in_steps_exprs es ≡ true
      → Same x d k (carried x d (programs.of_values es ops) k (some_values vs ∷ st))
      (values (standing x d) vs es >>= (λ ws. carried x d ops k (some_values ws ∷ st)))
  values_carried x d k no_exprs vs ops st h = refl
  values_carried x d k (exprs e rest) vs ops st h =
      let m = each_of (in_steps e) (in_steps_exprs rest) h in
      value_carried x d k e (Add ∷ programs.of_values rest ops) (some_values vs ∷ st) m.0
      ∙ (λ j. value (standing x d) e >>= (λ v. values_carried x d k rest (vs ++ v ∷ []) ops st m.1 j))
      ∙ sym (assoc (value (standing x d) e) (λ v. values (standing x d) (vs ++ v ∷ []) rest) (λ ws. carried x d ops k (some_values ws ∷ st)))

  actual_carried : (x : Context) (d : Depth) (k : Ending) (a : ActualTree) (b : Bool) (bs : List Binding) (ops : List Op) (st : List Item)
      → in_steps_actual a ≡ true
      → Same x d k (carried x d (of_actual a ops) k (handing b bs ∷ st)) (handed (standing x d) a >>= (λ h. carried x d ops k (handing b (bs ++ h ∷ []) ∷ st)))
  actual_carried x d k missing_actual b bs ops st h = uncalled_actual x d k missing_actual b bs ops st refl
  actual_carried x d k (value_actual e) b bs ops st h =
      by_test x d k (has_call e) (of_value e (Hand ∷ ops)) (Actual (value_actual e) ∷ ops) (handing b bs ∷ st) _
      (λ c. value_carried x d k e (Hand ∷ ops) (handing b bs ∷ st) h
      ∙ sym (assoc (value (standing x d) e) (λ v. give (valued v)) (λ g. carried x d ops k (handing b (bs ++ g ∷ []) ∷ st))))
      (λ n. uncalled_actual x d k (value_actual e) b bs ops st n)
  actual_carried x d k (name_actual name) b bs ops st h = uncalled_actual x d k (name_actual name) b bs ops st refl
  actual_carried x d k (indirect_actual p) b bs ops st h = by_test x d k (has_call_primary p)
      (of_primary p (Hand_name ∷ ops)) (Actual (indirect_actual p) ∷ ops) (handing b bs ∷ st) _
      (λ c. primary_carried x d k p (Hand_name ∷ ops) (handing b bs ∷ st) h
      ∙ (λ j. primary_value (standing x d) p >>= (λ v. stepped x d k (linked_by (plain (at_depth x d)) v) (λ g. handing b (bs ++ g ∷ []) ∷ st) ops j))
      ∙ sym (assoc (primary_value (standing x d) p) (λ v. linked_by (standing x d) v) (λ g. carried x d ops k (handing b (bs ++ g ∷ []) ∷ st))))
      (λ n. uncalled_actual x d k (indirect_actual p) b bs ops st n)

  pub actuals_carried : (x : Context) (d : Depth) (k : Ending) (xs : ActualsTree) (b : Bool) (bs : List Binding) (ops : List Op) (st : List Item)
      → in_steps_actuals xs ≡ true
      → Same x d k (carried x d (of_actuals xs ops) k (handing b bs ∷ st)) (all_handed (standing x d) bs xs >>= (λ cs. carried x d ops k (handing b cs ∷ st)))
  actuals_carried x d k no_actuals b bs ops st h = refl
  actuals_carried x d k (actuals a rest) b bs ops st h =
      let m = each_of (in_steps_actual a) (in_steps_actuals rest) h in
      actual_carried x d k a b bs (of_actuals rest ops) st m.0
      ∙ (λ j. handed (standing x d) a >>= (λ g. actuals_carried x d k rest b (bs ++ g ∷ []) ops st m.1 j))
      ∙ sym (assoc (handed (standing x d) a) (λ g. all_handed (standing x d) (bs ++ g ∷ []) rest) (λ cs. carried x d ops k (handing b cs ∷ st)))

-- a whole list
pub list_carried : (x : Context) (d : Depth) (k : Ending) (xs : ActualsTree) (b : Bool) (ops : List Op) (st : List Item) → in_steps_actuals xs ≡ true
    → Same x d k (carried x d (of_list xs ops) k (handing b [] ∷ st)) (handed_over (standing x d) xs >>= (λ bs. carried x d ops k (handing b bs ∷ st)))
list_carried x d k xs b ops st h =
    list_of x d k (is_bare xs) b ops (of_actuals xs ops) (all_handed (standing x d) [] xs) st (actuals_carried x d k xs b [] ops st h)

pub steps_evaluate : StepsEvaluate
steps_evaluate x d e ops k st h = value_carried x d k e ops st h

pub steps_find : StepsFind
steps_find x d r ops k st h = reference_carried x d k r ops st h

-- ---- a text, with no subscripts after it

none_more : (v : Evaluated) → with_more [] v ≡ v
none_more (of_local name xs) = ap (of_local name) (append-nil xs)
none_more (of_global n) = ap (λ (xs : List Text). of_global (record n { subscripts = xs })) (append-nil n.subscripts)
none_more (of_naked xs) = ap of_naked (append-nil xs)

pub attached_alone : (i : Inside) (x : Text) → ◌≡◌ {A = Act Evaluated} (attached i no_exprs x) (named_by i x)
attached_alone i x = (λ j. named_by i x >>= (λ v. give (none_more v j))) ∙ ended (named_by i x)
