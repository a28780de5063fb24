-- SPDX-License-Identifier: Apache-2.0
-- Arguments that have no call mean the same whatever functions give: what is proved of them where none is called serves a line.
use Rattle.mmeaning.proofs.MeaningWords.{◌≡◌, ℕ, false, List, [], ◌∷◌, ◌++◌, Option, Some, None, refl, Zarg, Zchar, Text, Act, ◌>>=◌, give, give_some}
use Rattle.mmeaning.proofs.MeaningWords.{ExprTree, ExprsTree, OperandTree, PrimaryTree, ReferenceTree, variable, one, lock_one, lock_several, Calls, Depth}
use Rattle.mmeaning.proofs.MeaningWords.{Inside, LockName, inside, finds, value, evaluated, setting}
use Rattle.std.specs.Prelude.{ℤ, ◌||◌, cond}
use Rattle.std.specs.List.{list_any}
use Rattle.mspec.specs.Act.{◌>>◌, unless, write, write_formats, set_test, cursor_is}
use Rattle.mspec.specs.Cursor.{is_column, spaces_to}
use Rattle.mspec.specs.Scopes.{Binding, valued, linked_to}
use Rattle.mspec.specs.Code.{Zsyntax}
use Rattle.mgrammar.specs.Grammar.{TailTree, TargetTree, part, DestinationTree, several, LockKindTree, LockedTree, ActualTree, missing_actual, value_actual}
use Rattle.mgrammar.specs.Grammar.{name_actual, indirect_actual, ActualsTree, no_actuals, actuals}
use Rattle.mgrammar.specs.Functions.{function_of}
use Rattle.mgrammar.specs.IndirectTexts.{name_of}
use Rattle.mgrammar.specs.CallsIn.{has_call, has_call_tail, has_call_operand, has_call_primary, has_call_reference, has_call_exprs, has_call_optional}
use Rattle.mgrammar.specs.CallsIn.{has_call_target, has_call_destination, has_call_locked, has_call_actual, has_call_actuals}
use Rattle.mmeaning.specs.Operators.{as_number, as_truth}
use Rattle.mmeaning.specs.Functions.{as_whole}
use Rattle.mmeaning.specs.Variables.{with_more, writing, resolve, kill_at, named_lock}
use Rattle.mmeaning.specs.Expression.{indirected, an_indirection_free, is_bare, named_by, attached, tail_value, operand_value, primary_value, values}
use Rattle.mmeaning.specs.Expression.{optional_value}
use Rattle.mmeaning.specs.Locking.{locking, lock_names, names_of, carried, told}
use Rattle.mmeaning.specs.Merging.{merge_found, merging}
use Rattle.mmeaning.specs.Parameters.{handed, all_handed, handed_over}
use Rattle.mmeaning.specs.LineMeaning.{Prepared, whole, partial, prepared, all_prepared, targets, all_assigned, showing, tabbing, formatting, coded_character}
use Rattle.mmeaning.specs.LineMeaning.{coding, killing, Returns, returning, holds, where_true, testing, number_of, hanging}
use Rattle.mmeaning.proofs.Uncalled.{neither, value_same, tail_same, operand_same, primary_same, reference_same, values_same}

module _ (a : Text) (n : ℕ) (d : Depth) (calls : Calls) where
  -- as where no function is called
  abbrev pub Plain : {A : Type 0} → (Inside → Act A) → Type 0
  Plain {A} p = ◌≡◌ {A = Act A} (p (record (inside a n d) { calls = calls })) (p (inside a n d))

  pub value_plain : (e : ExprTree) → has_call e ≡ false → Plain (λ i. value i e)
  value_plain e h = value_same a (finds a n) calls (inside a n d).calls d e h

  pub primary_plain : (p : PrimaryTree) → has_call_primary p ≡ false → Plain (λ i. primary_value i p)
  primary_plain p h = primary_same a (finds a n) calls (inside a n d).calls d p h

  pub operand_plain : (o : OperandTree) → has_call_operand o ≡ false → Plain (λ i. operand_value i o)
  operand_plain o h = operand_same a (finds a n) calls (inside a n d).calls d o h

  pub tail_plain : (x : Text) (s : TailTree) → has_call_tail s ≡ false → Plain (λ i. tail_value i x s)
  tail_plain x s h = tail_same a (finds a n) calls (inside a n d).calls d x s h

  pub reference_plain : (r : ReferenceTree) → has_call_reference r ≡ false → Plain (λ i. evaluated i r)
  reference_plain r h = reference_same a (finds a n) calls (inside a n d).calls d r h

  pub attached_plain : (es : ExprsTree) (x : Text) → has_call_exprs es ≡ false → Plain (λ i. attached i es x)
  attached_plain es x h = λ j. named_by (inside a n d) x >>= (λ v.
      values_same a (finds a n) calls (inside a n d).calls (indirected d) [] es h j >>= (λ xs. give (with_more xs v)))

  pub values_plain : (xs : List Text) (es : ExprsTree) → has_call_exprs es ≡ false → Plain (λ i. values i xs es)
  values_plain xs es h = values_same a (finds a n) calls (inside a n d).calls d xs es h

  -- ---- conditions and numbers

  pub holds_plain : (o : Option ExprTree) → has_call_optional o ≡ false → Plain (λ i. holds i o)
  holds_plain None h = refl
  holds_plain (Some e) h = λ j. value_plain e h j >>= (λ x. as_truth x)

  pub number_plain : (e : ExprTree) → has_call e ≡ false → Plain (λ i. number_of i e)
  number_plain e h = λ j. value_plain e h j >>= (λ x. as_number x)

  optional_plain : (o : Option ExprTree) → has_call_optional o ≡ false → Plain (λ i. optional_value i o)
  optional_plain None h = refl
  optional_plain (Some e) h = λ j. value_plain e h j >>= (λ x. give (Some x))

  -- ---- SET

  target_plain : (t : TargetTree) → has_call_target t ≡ false → Plain (λ i. prepared i t)
  target_plain (variable r) h = λ j. reference_plain r h j >>= (λ v. give (whole v))
  target_plain (part word r more) h =
      let m = neither (has_call_reference r) (has_call_exprs more) h in
      λ j. reference_plain r m.0 j >>= (λ v. values_plain [] more m.1 j >>= (λ xs. give (partial (function_of word) v xs)))

  pub targets_plain : (ps : List Prepared) (ts : List TargetTree) → list_any has_call_target ts ≡ false → Plain (λ i. all_prepared i ps ts)
  targets_plain ps [] h = refl
  targets_plain ps (t ∷ ts) h =
      let m = neither (has_call_target t) (list_any has_call_target ts) h in
      λ j. target_plain t m.0 j >>= (λ p. targets_plain (ps ++ p ∷ []) ts m.1 j)

  pub in_targets : (t : DestinationTree) → has_call_destination t ≡ false → list_any has_call_target (targets t) ≡ false
  in_targets (one t) h = rw h refl
  in_targets (several ts) h = h

  pub setting_plain : (t : DestinationTree) (e : ExprTree) → has_call_destination t || has_call e ≡ false → Plain (λ i. setting i t e)
  setting_plain t e h =
      let m = neither (has_call_destination t) (has_call e) h in
      λ j. targets_plain [] (targets t) (in_targets t m.0) j >>= (λ ps. value_plain e m.1 j >>= (λ x. all_assigned x ps))

  -- ---- WRITE

  pub showing_plain : (e : ExprTree) → has_call e ≡ false → Plain (λ i. showing i e)
  showing_plain e h = λ j. value_plain e h j >>= (λ x. write x)

  tabbing_plain : (o : Option ExprTree) → has_call_optional o ≡ false → Plain (λ i. tabbing i o)
  tabbing_plain None h = refl
  tabbing_plain (Some e) h =
      λ j. value_plain e h j >>= (λ x. as_whole x >>= (λ k. unless Zarg (is_column k) >> (cursor_is >>= (λ c. write (spaces_to k c.column)))))

  pub formatting_plain : (run : List ℕ) (o : Option ExprTree) → has_call_optional o ≡ false → Plain (λ i. formatting i run o)
  formatting_plain run o h = λ j. write_formats run >> tabbing_plain o h j

  pub coding_plain : (e : ExprTree) → has_call e ≡ false → Plain (λ i. coding i e)
  coding_plain e h = λ j. value_plain e h j >>= (λ x. as_whole x >>= (λ k. give_some Zchar (coded_character k) >>= (λ c. write (c ∷ []))))

  -- ---- KILL, IF, HANG and QUIT

  pub killing_plain : (r : ReferenceTree) → has_call_reference r ≡ false → Plain (λ i. killing i r)
  killing_plain r h = λ j. reference_plain r h j >>= (λ v. resolve writing v >>= (λ p. kill_at p))

  pub testing_plain : (e : ExprTree) → has_call e ≡ false → Plain (λ i. testing i e)
  testing_plain e h = λ j. value_plain e h j >>= (λ x. as_truth x >>= (λ b. set_test b >> give (where_true b)))

  pub hanging_plain : (e : ExprTree) → has_call e ≡ false → Plain (λ i. hanging i e)
  hanging_plain e h = λ j. number_plain e h j >>= (λ (seconds : ℤ). give tt)

  pub returning_plain : (e : ExprTree) → has_call e ≡ false → Plain (λ i. returning i e)
  returning_plain e h = λ j. value_plain e h j >>= (λ x. give (Returns x))

  -- ---- MERGE

  pub merging_plain : (target source : ReferenceTree) → has_call_reference target || has_call_reference source ≡ false → Plain (λ i. merging i target source)
  merging_plain target source h =
      let m = neither (has_call_reference target) (has_call_reference source) h in
      λ j. reference_plain target m.0 j >>= (λ v. reference_plain source m.1 j >>= (λ w. merge_found v w))

  -- ---- LOCK

  names_plain : (ns : List LockName) (rs : List ReferenceTree) → list_any has_call_reference rs ≡ false → Plain (λ i. lock_names i ns rs)
  names_plain ns [] h = refl
  names_plain ns (r ∷ rs) h =
      let m = neither (has_call_reference r) (list_any has_call_reference rs) h in
      λ j. reference_plain r m.0 j >>= (λ v. named_lock a v >>= (λ k. names_plain (ns ++ k ∷ []) rs m.1 j))

  in_names : (t : LockedTree) → has_call_locked t ≡ false → list_any has_call_reference (names_of t) ≡ false
  in_names (lock_one r) h = rw h refl
  in_names (lock_several rs) h = h

  pub locking_plain : (k : LockKindTree) (t : LockedTree) (o : Option ExprTree) → has_call_locked t || has_call_optional o ≡ false
      → Plain (λ i. locking i k t o)
  locking_plain k t o h =
      let m = neither (has_call_locked t) (has_call_optional o) h in
      λ j. names_plain [] (names_of t) (in_names t m.0) j >>= (λ ns. optional_plain o m.1 j >>= (λ x. carried k ns >>= (λ b. told x b)))

  -- ---- actuals

  pub handed_plain : (x : ActualTree) → has_call_actual x ≡ false → Plain (λ i. handed i x)
  handed_plain missing_actual h = refl
  handed_plain (value_actual e) h = λ j. value_plain e h j >>= (λ x. give (valued x))
  handed_plain (name_actual name) h = refl
  handed_plain (indirect_actual p) h =
      λ j. primary_plain p h j >>= (λ x. an_indirection_free d >> (give_some Zsyntax (name_of x) >>= (λ name. give (linked_to name))))

  all_handed_plain : (bs : List Binding) (xs : ActualsTree) → has_call_actuals xs ≡ false → Plain (λ i. all_handed i bs xs)
  all_handed_plain bs no_actuals h = refl
  all_handed_plain bs (actuals x rest) h =
      let m = neither (has_call_actual x) (has_call_actuals rest) h in
      λ j. handed_plain x m.0 j >>= (λ b. all_handed_plain (bs ++ b ∷ []) rest m.1 j)

  pub handed_over_plain : (xs : ActualsTree) → has_call_actuals xs ≡ false → Plain (λ i. handed_over i xs)
  handed_over_plain xs h = λ j. cond (is_bare xs) (give []) (all_handed_plain [] xs h j)
