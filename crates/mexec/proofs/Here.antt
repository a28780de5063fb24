-- SPDX-License-Identifier: Apache-2.0
-- What calls no function is in a line as it is where no function is called.
use Rattle.mexec.proofs.ExecWords.{◌≡◌, ℕ, Bool, false, List, Option, Some, ◌∷◌, [], Text, Act, ◌>>=◌, ◌>>◌, give, ExprTree, ParameterTree, once, onward, until}
use Rattle.mexec.proofs.ExecWords.{PrimaryTree, Inside, inside, inside_of, context, holds, primary_value, value, number_of}
use Rattle.std.specs.Prelude.{ℤ, ◌||◌}
use Rattle.mspec.specs.NumberText.{number_text}
use Rattle.mspec.specs.Scopes.{Binding}
use Rattle.mgrammar.specs.Grammar.{ReferenceTree, DestinationTree, LockKindTree, LockedTree, ActualsTree}
use Rattle.mgrammar.specs.CallsIn.{has_call, has_call_primary, has_call_reference, has_call_optional, has_call_destination, has_call_locked, has_call_actuals}
use Rattle.mgrammar.specs.CallsIn.{has_call_parameter}
use Rattle.mmeaning.specs.Courses as courses
use Rattle.mmeaning.specs.Expression.{Calls}
use Rattle.mmeaning.specs.Levels.{Position}
use Rattle.mmeaning.specs.Locking.{locking}
use Rattle.mmeaning.specs.Merging.{merging}
use Rattle.mmeaning.specs.LineMeaning as meaning
use Rattle.mmeaning.specs.Parameters.{handed_over}
use Rattle.mmeaning.specs.Variables.{at_local, put_at}
use Rattle.mmeaning.proofs.Uncalled.{neither}
use Rattle.mmeaning.proofs.UncalledArguments.{Plain, value_plain, primary_plain, holds_plain, number_plain, setting_plain, showing_plain, formatting_plain}
use Rattle.mmeaning.proofs.UncalledArguments.{coding_plain, killing_plain, merging_plain, testing_plain, hanging_plain, returning_plain, locking_plain}
use Rattle.mmeaning.proofs.UncalledArguments.{handed_over_plain}
use Rattle.mcommand.specs.ForParameters.{started, start_and_increment, begun_within}

-- ---- the parameters of FOR

module _ (a : Text) (n : ℕ) (d : _) (calls : Calls) where
  start_plain : (e by : ExprTree) → has_call e ≡ false → has_call by ≡ false → Plain a n d calls (λ i. start_and_increment i e by)
  start_plain e by one other = λ j. number_plain a n d calls e one j >>= (λ x. number_plain a n d calls by other j >>= (λ y. give (x, y)))

  started_plain : (index : Text) (q : ParameterTree) → has_call_parameter q ≡ false → Plain a n d calls (λ i. started i index q)
  started_plain index (once e) h = λ j. value_plain a n d calls e h j >>= (λ x. put_at (at_local index []) x >> give (Some courses.last_turn))
  started_plain index (onward e by) h =
      let m = neither (has_call e) (has_call by) h in
      λ j. start_plain e by m.0 m.1 j >>= (λ numbers. put_at (at_local index []) (number_text numbers.0) >> give (Some (courses.endless numbers.1)))
  started_plain index (until e by to) h =
      let m = neither (has_call e) (has_call by || has_call to) h in
      let k = neither (has_call by) (has_call to) m.1 in
      λ j. start_plain e by m.0 k.0 j >>= (λ numbers. number_plain a n d calls to k.1 j >>= (λ limit. put_at (at_local index []) (number_text numbers.0) >> give (begun_within numbers.0 numbers.1 limit)))

-- ---- in the context of a line

module _ (p : Position) where
  abbrev pub Here : {A : Type 0} → (Inside → Act A) → Type 0
  Here {A} act = (a : Text) (n : ℕ) → ◌≡◌ {A = Act A} (act (inside_of (context a n p))) (act (inside a n p.depth))

  pub value_here : (e : ExprTree) → has_call e ≡ false → Here (λ i. value i e)
  value_here e h a n = value_plain a n p.depth (inside_of (context a n p)).calls e h

  pub primary_here : (o : PrimaryTree) → has_call_primary o ≡ false → Here (λ i. primary_value i o)
  primary_here o h a n = primary_plain a n p.depth (inside_of (context a n p)).calls o h

  pub holds_here : (c : Option ExprTree) → has_call_optional c ≡ false → Here (λ i. holds i c)
  holds_here c h a n = holds_plain a n p.depth (inside_of (context a n p)).calls c h

  pub started_here : (index : Text) (q : ParameterTree) → has_call_parameter q ≡ false → Here (λ i. started i index q)
  started_here index q h a n = started_plain a n p.depth (inside_of (context a n p)).calls index q h

  pub setting_here : (t : DestinationTree) (e : ExprTree) → has_call_destination t || has_call e ≡ false → Here (λ i. meaning.setting i t e)
  setting_here t e h a n = setting_plain a n p.depth (inside_of (context a n p)).calls t e h

  pub formatting_here : (run : List ℕ) (tab : Option ExprTree) → has_call_optional tab ≡ false → Here (λ i. meaning.formatting i run tab)
  formatting_here run tab h a n = formatting_plain a n p.depth (inside_of (context a n p)).calls run tab h

  pub coding_here : (e : ExprTree) → has_call e ≡ false → Here (λ i. meaning.coding i e)
  coding_here e h a n = coding_plain a n p.depth (inside_of (context a n p)).calls e h

  pub showing_here : (e : ExprTree) → has_call e ≡ false → Here (λ i. meaning.showing i e)
  showing_here e h a n = showing_plain a n p.depth (inside_of (context a n p)).calls e h

  pub killing_here : (r : ReferenceTree) → has_call_reference r ≡ false → Here (λ i. meaning.killing i r)
  killing_here r h a n = killing_plain a n p.depth (inside_of (context a n p)).calls r h

  pub merging_here : (target source : ReferenceTree) → has_call_reference target || has_call_reference source ≡ false → Here (λ i. merging i target source)
  merging_here target source h a n = merging_plain a n p.depth (inside_of (context a n p)).calls target source h

  pub testing_here : (e : ExprTree) → has_call e ≡ false → Here (λ i. meaning.testing i e)
  testing_here e h a n = testing_plain a n p.depth (inside_of (context a n p)).calls e h

  pub hanging_here : (e : ExprTree) → has_call e ≡ false → Here (λ i. meaning.hanging i e)
  hanging_here e h a n = hanging_plain a n p.depth (inside_of (context a n p)).calls e h

  pub returning_here : (e : ExprTree) → has_call e ≡ false → Here (λ i. meaning.returning i e)
  returning_here e h a n = returning_plain a n p.depth (inside_of (context a n p)).calls e h

  pub locking_here : (k : LockKindTree) (t : LockedTree) (o : Option ExprTree) → has_call_locked t || has_call_optional o ≡ false → Here (λ i. locking i k t o)
  locking_here k t o h a n = locking_plain a n p.depth (inside_of (context a n p)).calls k t o h

  pub handed_over_here : (xs : ActualsTree) → has_call_actuals xs ≡ false → Here (λ i. handed_over i xs)
  handed_over_here xs h a n = handed_over_plain a n p.depth (inside_of (context a n p)).calls xs h
