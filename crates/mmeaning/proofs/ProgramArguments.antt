-- SPDX-License-Identifier: Apache-2.0
-- Arguments and conditions do what their programs do.
use Rattle.mmeaning.proofs.MeaningWords.{◌≡◌, ℕ, Bool, true, false, cond, List, [], ◌∷◌, Option, Some, None, refl, sym, ap, ◌∙◌, Text, Act, ◌>>=◌, give}
use Rattle.mmeaning.proofs.MeaningWords.{ExprTree, EntryTree, ActualsTree, no_actuals, ArgTree, assign, formats, coded, shown, kill_one, new_one, tested}
use Rattle.mmeaning.proofs.MeaningWords.{loop, do_one, go_to, executed, locked, indirect_args, target, setting, Inside, Completion, Context, Go_on, going}
use Rattle.mmeaning.proofs.MeaningWords.{doing, executing, value}
use Rattle.mmeaning.proofs.MeaningWords.{ReferenceTree, variable, one, lock_one, lock_several, LockName, evaluated, ◌++◌, list_all}
use Rattle.std.specs.Prelude.{ℤ, ◌&&◌, is_some}
use Rattle.mspec.specs.Act.{◌>>◌, write, write_formats, test_is}
use Rattle.mspec.specs.Scopes.{Binding}
use Rattle.mspec.specs.NumberText.{number_text}
use Rattle.mgrammar.specs.Grammar.{TargetTree, part, DestinationTree, several, LockKindTree, LockedTree, kill_others, new_others}
use Rattle.mgrammar.specs.Grammar.{hang_for, returned, merge_one, actuals}
use Rattle.mgrammar.specs.Grammar.{ParameterTree, once, onward, until, CommandTree}
use Rattle.mgrammar.specs.Functions.{function_of}
use Rattle.mgrammar.specs.CallsIn.{has_call_destination}
use Rattle.mgrammar.specs.ProgramsIn.{in_steps, in_steps_reference, in_steps_exprs, in_steps_actuals, in_steps_optional, in_steps_target, in_steps_destination}
use Rattle.mgrammar.specs.ProgramsIn.{in_steps_parameter, in_steps_locked}
use Rattle.mmeaning.specs.Operators.{as_number, as_truth}
use Rattle.mmeaning.specs.Variables.{at_local, writing, resolve, put_at, kill_at, named_lock}
use Rattle.mmeaning.specs.Expression.{Depth, values, optional_value}
use Rattle.mmeaning.specs.Locking as locks
use Rattle.mmeaning.specs.Locking.{locking}
use Rattle.mmeaning.specs.Merging.{merge_found, merging}
use Rattle.mmeaning.specs.Levels.{Closing, leaves, a_level_free}
use Rattle.mmeaning.specs.Parameters.{handed_over, formals_of_target, formals_for, with_formals}
use Rattle.mmeaning.specs.LineMeaning.{Prepared, whole, partial, prepared, killing}
use Rattle.mmeaning.specs.LineMeaning.{inside_of, targets, all_prepared, all_assigned, spaced_to, character_written, argument, where_holds, where_true}
use Rattle.mmeaning.specs.LineMeaning.{number_of, in_level, lines_called, entering, answering, next_parameter, begin_turn}
use Rattle.mmeaning.specs.Courses.{Course, last_turn, endless, limited, is_past}
use Rattle.mmeaning.specs.Programs.{found, some_names, Values, Targets, Target, Part, Names, Name, Kill, Merge, Lock, Indirect, lock_done, of_reference}
use Rattle.mmeaning.specs.Programs.{of_values, of_target, of_targets, of_destination, of_names, of_timeout, some_numbers, Numbers, Number, Loop, begun_within}
use Rattle.mmeaning.specs.Programs.{turned, of_parameter}
use Rattle.mmeaning.specs.Programs.{made, Op, Formats, Prepare, Where, Begin, Ending, Assign, Show, Tab, Character, Test, Hold, Wait, Return, Run, Enter, Go}
use Rattle.mmeaning.specs.Programs.{Program, plain, listed, is_list, going_on, carried, of_value, of_list, of_condition, program_if, program_of, once_true}
use Rattle.mmeaning.specs.ProgramLaws.{ProgramsCarryArguments, ProgramsCarryConditions, ProgramsCarryParameters}
use Rattle.mmeaning.proofs.Calls.{assoc}
use Rattle.mmeaning.proofs.UncalledArguments.{targets_plain, in_targets}
use Rattle.mmeaning.proofs.ProgramSteps.{each_of, stepped, by_test, value_carried, primary_carried, reference_carried, values_carried, list_carried}

-- a program that there is
if_there : (p : Program → Act Completion) (q : Act Completion) (c : Bool) (ops : List Op) (k : Ending) (r : Program) → program_if c ops k ≡ Some r
    → (c ≡ true → ◌≡◌ {A = Act Completion} q (p (record { steps = ops; ending = k }))) → ◌≡◌ {A = Act Completion} q (p r)
if_there p q true ops k r h f = let same : record { steps = ops; ending = k } ≡ r = cc in f refl ∙ ap p same
if_there p q false ops k r h f = absurd (let clash : ◌≡◌ {A = Option Program} None (Some r) = h in cc)

-- whether a list is written is all that a line asks of it
formals_listed : (xs : ActualsTree) (names : Option (List Text)) (bs : List Binding)
    → ◌≡◌ {A = Act (Option (List (Text × Binding)))} (formals_for xs names bs) (formals_for (listed (is_list xs)) names bs)
formals_listed no_actuals names bs = refl
formals_listed (actuals a rest) None bs = refl
formals_listed (actuals a rest) (Some names) bs = refl

module _ (x : Context) where
  abbrev i : Inside
  i = inside_of x

  abbrev deep : Depth
  deep = x.position.depth

  abbrev Alike : Act Completion → Act Completion → Type 0
  Alike p q = ◌≡◌ {A = Act Completion} p q

  abbrev does : Program → Act Completion
  does p = carried x deep p.steps p.ending []

  entering_listed : (e : EntryTree) (xs : ActualsTree) (bs : List Binding) (c : Closing)
      → Alike (entering x e xs bs c) (entering x e (listed (is_list xs)) bs c)
  entering_listed e xs bs c = λ j.
      a_level_free x.position.depth >> (target x.position.level.copy 0 e >>= (λ t.
      formals_of_target t >>= (λ names. formals_listed xs names bs j >>= (λ formals.
      in_level x (record { copy = t.copy; next = Some t.line; dots = 0 }) c (with_formals formals) lines_called))))

  -- what is done with a value, and then the next argument
  with_value : (e : ExprTree) (f : Text → Act (Unit {0})) → Alike ((value i e >>= f) >> give Go_on) (value i e >>= (λ v. f v >> give Go_on))
  with_value e f = assoc (value i e) f (λ u. give Go_on)

  -- ---- conditions

  where_chosen : (b : Bool) (ops : List Op) (k : Ending) (q : Act Completion) → Alike q (carried x deep ops k [])
      → Alike (cond b q (give Go_on)) (going_on (carried x deep ops k) (cond b (Some []) None))
  where_chosen true ops k q h = h
  where_chosen false ops k q h = refl

  condition_carried : (c : Option ExprTree) (ops : List Op) (k : Ending) (q : Act Completion) → in_steps_optional c ≡ true → Alike q (carried x deep ops k [])
      → Alike (where_holds x c q) (carried x deep (of_condition c ops) k [])
  condition_carried None ops k q is h = h
  condition_carried (Some e) ops k q is h =
      assoc (value i e) as_truth (λ b. cond b q (give Go_on))
      ∙ (λ j. value i e >>= (λ v. as_truth v >>= (λ b. where_chosen b ops k q h j)))
      ∙ (λ j. value i e >>= (λ v. sym (assoc (as_truth v) (λ b. give (cond b (Some []) None)) (going_on (carried x deep ops k))) j))
      ∙ sym (value_carried x deep k e (Where ∷ ops) [] is)

  truth_went : (b : Bool) (q : Act Completion) → Alike (cond b q (give Go_on)) (once_true q (where_true b))
  truth_went true q = refl
  truth_went false q = refl

  held : (e : ExprTree) (q : Act Completion) → in_steps e ≡ true → Alike (where_holds x (Some e) q) (carried x deep (of_value e []) Hold [] >>= once_true q)
  held e q is =
      assoc (value i e) as_truth (λ b. cond b q (give Go_on))
      ∙ (λ j. value i e >>= (λ v. as_truth v >>= (λ b. truth_went b q j)))
      ∙ (λ j. value i e >>= (λ v. sym (assoc (as_truth v) (λ b. give (where_true b)) (once_true q)) j))
      ∙ sym (assoc (value i e) (λ v. as_truth v >>= (λ b. give (where_true b))) (once_true q))
      ∙ (λ j. sym (value_carried x deep Hold e [] [] is) j >>= once_true q)

  -- ---- arguments

  target_carried : (k : Ending) (t : TargetTree) (ps : List Prepared) (ops : List Op) → in_steps_target t ≡ true
      → Alike (carried x deep (of_target t ops) k (made ps ∷ [])) (prepared i t >>= (λ p. carried x deep ops k (made (ps ++ p ∷ []) ∷ [])))
  target_carried k (variable r) ps ops h =
      reference_carried x deep k r (Target ∷ ops) (made ps ∷ []) h
      ∙ sym (assoc (evaluated i r) (λ v. give (whole v)) (λ p. carried x deep ops k (made (ps ++ p ∷ []) ∷ [])))
  target_carried k (part word r more) ps ops h =
      let m = each_of (in_steps_reference r) (in_steps_exprs more) h in
      reference_carried x deep k r (Values ∷ of_values more (Part word ∷ ops)) (made ps ∷ []) m.0
      ∙ (λ j. evaluated i r >>= (λ v. values_carried x deep k more [] (Part word ∷ ops) (found v ∷ made ps ∷ []) m.1 j))
      ∙ (λ j. evaluated i r >>= (λ v. sym (assoc (values i [] more) (λ vs. give (partial (function_of word) v vs))
      (λ p. carried x deep ops k (made (ps ++ p ∷ []) ∷ []))) j))
      ∙ sym (assoc (evaluated i r) (λ v. values i [] more >>= (λ vs. give (partial (function_of word) v vs)))
      (λ p. carried x deep ops k (made (ps ++ p ∷ []) ∷ [])))

  targets_carried : (k : Ending) (ts : List TargetTree) (ps : List Prepared) (ops : List Op) → list_all in_steps_target ts ≡ true
      → Alike (carried x deep (of_targets ts ops) k (made ps ∷ [])) (all_prepared i ps ts >>= (λ qs. carried x deep ops k (made qs ∷ [])))
  targets_carried k [] ps ops h = refl
  targets_carried k (t ∷ ts) ps ops h =
      let m = each_of (in_steps_target t) (list_all in_steps_target ts) h in
      target_carried k t ps (of_targets ts ops) m.0
      ∙ (λ j. prepared i t >>= (λ p. targets_carried k ts (ps ++ p ∷ []) ops m.1 j))
      ∙ sym (assoc (prepared i t) (λ p. all_prepared i (ps ++ p ∷ []) ts) (λ qs. carried x deep ops k (made qs ∷ [])))

  all_in_steps : (d : DestinationTree) → in_steps_destination d ≡ true → list_all in_steps_target (targets d) ≡ true
  all_in_steps (one t) h = rw h refl
  all_in_steps (several ts) h = h

  destination_carried : (k : Ending) (d : DestinationTree) (ops : List Op) → in_steps_destination d ≡ true
      → Alike (carried x deep (of_destination d ops) k []) (all_prepared i [] (targets d) >>= (λ ps. carried x deep ops k (made ps ∷ [])))
  destination_carried k d ops h = by_test x deep k (has_call_destination d) (Targets ∷ of_targets (targets d) ops) (Prepare d ∷ ops) [] _
      (λ c. targets_carried k (targets d) [] ops (all_in_steps d h))
      (λ n. stepped x deep k (all_prepared (plain x) [] (targets d)) (λ ps. made ps ∷ []) ops
      ∙ (λ j. sym (targets_plain x.account x.fuel x.position.depth (answering x) [] (targets d)
      (in_targets x.account x.fuel x.position.depth (answering x) d n)) j >>= (λ ps. carried x deep ops k (made ps ∷ []))))

  set_carried : (d : DestinationTree) (e : ExprTree) → in_steps_destination d && in_steps e ≡ true
      → Alike (setting i d e >> give Go_on) (carried x deep (of_destination d (of_value e [])) Assign [])
  set_carried d e h =
      let m = each_of (in_steps_destination d) (in_steps e) h in
      assoc (all_prepared i [] (targets d)) (λ ps. value i e >>= (λ v. all_assigned v ps)) (λ u. give Go_on)
      ∙ (λ j. all_prepared i [] (targets d) >>= (λ ps. with_value e (λ v. all_assigned v ps) j))
      ∙ (λ j. all_prepared i [] (targets d) >>= (λ ps. sym (value_carried x deep Assign e [] (made ps ∷ []) m.1) j))
      ∙ sym (destination_carried Assign d (of_value e []) m.0)

  kill_carried : (r : ReferenceTree) → in_steps_reference r ≡ true → Alike (killing i r >> give Go_on) (carried x deep (of_reference r []) Kill [])
  kill_carried r is =
      assoc (evaluated i r) (λ v. resolve writing v >>= kill_at) (λ u. give Go_on)
      ∙ sym (reference_carried x deep Kill r [] [] is)

  merge_carried : (target source : ReferenceTree) → in_steps_reference target && in_steps_reference source ≡ true
      → Alike (merging i target source >> give Go_on) (carried x deep (of_reference target (of_reference source [])) Merge [])
  merge_carried target source h =
      let m = each_of (in_steps_reference target) (in_steps_reference source) h in
      assoc (evaluated i target) (λ v. evaluated i source >>= merge_found v) (λ u. give Go_on)
      ∙ (λ j. evaluated i target >>= (λ v. assoc (evaluated i source) (merge_found v) (λ u. give Go_on) j))
      ∙ (λ j. evaluated i target >>= (λ v. sym (reference_carried x deep Merge source [] (found v ∷ []) m.1) j))
      ∙ sym (reference_carried x deep Merge target (of_reference source []) [] m.0)

  names_carried : (k : Ending) (rs : List ReferenceTree) (ns : List LockName) (ops : List Op) → list_all in_steps_reference rs ≡ true
      → Alike (carried x deep (of_names rs ops) k (some_names ns ∷ [])) (locks.lock_names i ns rs >>= (λ ms. carried x deep ops k (some_names ms ∷ [])))
  names_carried k [] ns ops h = refl
  names_carried k (r ∷ rs) ns ops h =
      let m = each_of (in_steps_reference r) (list_all in_steps_reference rs) h in
      reference_carried x deep k r (Name ∷ of_names rs ops) (some_names ns ∷ []) m.0
      ∙ (λ j. evaluated i r >>= (λ v. stepped x deep k (named_lock x.account v) (λ n. some_names (ns ++ n ∷ []) ∷ []) (of_names rs ops) j))
      ∙ (λ j. evaluated i r >>= (λ v. named_lock x.account v >>= (λ n. names_carried k rs (ns ++ n ∷ []) ops m.1 j)))
      ∙ (λ j. evaluated i r >>= (λ v. sym (assoc (named_lock x.account v) (λ n. locks.lock_names i (ns ++ n ∷ []) rs)
      (λ ms. carried x deep ops k (some_names ms ∷ []))) j))
      ∙ sym (assoc (evaluated i r) (λ v. named_lock x.account v >>= (λ n. locks.lock_names i (ns ++ n ∷ []) rs))
      (λ ms. carried x deep ops k (some_names ms ∷ [])))

  all_names_in_steps : (t : LockedTree) → in_steps_locked t ≡ true → list_all in_steps_reference (locks.names_of t) ≡ true
  all_names_in_steps (lock_one r) h = rw h refl
  all_names_in_steps (lock_several rs) h = h

  timed : (k : LockKindTree) (t : Option ExprTree) (ns : List LockName) → in_steps_optional t ≡ true
      → Alike ((optional_value i t >>= lock_done k ns) >> give Go_on) (carried x deep (of_timeout t []) (Lock k (is_some t)) (some_names ns ∷ []))
  timed k None ns is = refl
  timed k (Some e) ns is =
      (λ j. assoc (value i e) (λ v. give (Some v)) (lock_done k ns) j >> give Go_on)
      ∙ assoc (value i e) (λ v. lock_done k ns (Some v)) (λ u. give Go_on)
      ∙ sym (value_carried x deep (Lock k true) e [] (some_names ns ∷ []) is)

  lock_carried : (k : LockKindTree) (names : LockedTree) (t : Option ExprTree) → in_steps_locked names && in_steps_optional t ≡ true
      → Alike (locking i k names t >> give Go_on) (carried x deep (Names ∷ of_names (locks.names_of names) (of_timeout t [])) (Lock k (is_some t)) [])
  lock_carried k names t h =
      let m = each_of (in_steps_locked names) (in_steps_optional t) h in
      assoc (locks.lock_names i [] (locks.names_of names)) (λ ns. optional_value i t >>= lock_done k ns) (λ u. give Go_on)
      ∙ (λ j. locks.lock_names i [] (locks.names_of names) >>= (λ ns. timed k t ns m.1 j))
      ∙ sym (names_carried (Lock k (is_some t)) (locks.names_of names) [] (of_timeout t []) (all_names_in_steps names m.0))

  tab_carried : (run : List ℕ) (e : ExprTree) → in_steps e ≡ true
      → Alike ((write_formats run >> (value i e >>= spaced_to)) >> give Go_on) (carried x deep (Formats run ∷ of_value e []) Tab [])
  tab_carried run e is =
      assoc (write_formats run) (λ u. value i e >>= spaced_to) (λ u. give Go_on)
      ∙ (λ j. write_formats run >> with_value e spaced_to j)
      ∙ (λ j. write_formats run >> sym (value_carried x deep Tab e [] [] is) j)
      ∙ sym (stepped x deep Tab (write_formats run) (λ u. []) (of_value e []))

  hang_carried : (e : ExprTree) → in_steps e ≡ true
      → Alike ((number_of i e >>= (λ (seconds : ℤ). give (tt {0}))) >> give Go_on) (carried x deep (of_value e []) Wait [])
  hang_carried e is =
      assoc (number_of i e) (λ (seconds : ℤ). give (tt {0})) (λ u. give Go_on)
      ∙ assoc (value i e) as_number (λ (seconds : ℤ). give Go_on)
      ∙ sym (value_carried x deep Wait e [] [] is)

  called_carried : (e : EntryTree) (xs : ActualsTree) → in_steps_actuals xs ≡ true
      → Alike (doing x e xs) (carried x deep (Begin ∷ of_list xs []) (Enter e (is_list xs)) [])
  called_carried e xs is =
      (λ j. handed_over i xs >>= (λ bs. entering_listed e xs bs leaves j))
      ∙ (λ j. test_is >>= (λ b. sym (list_carried x deep (Enter e (is_list xs)) xs b [] [] is) j))

  -- ---- parameters of FOR

  number_carried : (k : Ending) (e : ExprTree) (ns : List ℤ) (ops : List Op) → in_steps e ≡ true
      → Alike (carried x deep (of_value e (Number ∷ ops)) k (some_numbers ns ∷ []))
      (number_of i e >>= (λ n. carried x deep ops k (some_numbers (ns ++ n ∷ []) ∷ [])))
  number_carried k e ns ops is =
      value_carried x deep k e (Number ∷ ops) (some_numbers ns ∷ []) is
      ∙ (λ j. value i e >>= (λ v. stepped x deep k (as_number v) (λ n. some_numbers (ns ++ n ∷ []) ∷ []) ops j))
      ∙ sym (assoc (value i e) as_number (λ n. carried x deep ops k (some_numbers (ns ++ n ∷ []) ∷ [])))

  -- the index is set, and then come these turns
  index_then : (k : Ending) (p : Act (Unit {0})) (c : Option Course) → Alike ((p >> give c) >>= turned x k) (p >> turned x k c)
  index_then k p c = assoc p (λ u. give c) (turned x k)

  within_limit : (b : Bool) (index : Text) (rest : List ParameterTree) (body : List CommandTree) (c : Course)
      → Alike (cond b (next_parameter x index body rest) (begin_turn x (record { index = index; course = c; parameters = rest; body = body })))
      (turned x (Loop index rest body) (cond b None (Some c)))
  within_limit true index rest body c = refl
  within_limit false index rest body c = refl

  module _ (index : Text) (rest : List ParameterTree) (body : List CommandTree) where
    abbrev k : Ending
    k = Loop index rest body

    once_carried : (e : ExprTree) → in_steps e ≡ true → Alike (next_parameter x index body (once e ∷ rest)) (carried x deep (of_value e []) k [])
    once_carried e is =
        (λ j. value i e >>= (λ v. sym (index_then k (put_at (at_local index []) v) (Some last_turn)) j))
        ∙ sym (value_carried x deep k e [] [] is)

    two_carried : (e by : ExprTree) (ops : List Op) → in_steps e && in_steps by ≡ true
        → Alike (carried x deep (Numbers ∷ of_value e (Number ∷ of_value by (Number ∷ ops))) k [])
        (number_of i e >>= (λ a. number_of i by >>= (λ b. carried x deep ops k (some_numbers (a ∷ b ∷ []) ∷ []))))
    two_carried e by ops is =
        let m = each_of (in_steps e) (in_steps by) is in
        number_carried k e [] (of_value by (Number ∷ ops)) m.0
        ∙ (λ j. number_of i e >>= (λ a. number_carried k by (a ∷ []) ops m.1 j))

    onward_carried : (e by : ExprTree) → in_steps e && in_steps by ≡ true
        → Alike (next_parameter x index body (onward e by ∷ rest)) (carried x deep (of_parameter (onward e by) []) k [])
    onward_carried e by is =
        (λ j. number_of i e >>= (λ a. number_of i by >>= (λ b. sym (index_then k (put_at (at_local index []) (number_text a)) (Some (endless b))) j)))
        ∙ sym (two_carried e by [] is)

    until_carried : (e by to : ExprTree) → in_steps e && (in_steps by && in_steps to) ≡ true
        → Alike (next_parameter x index body (until e by to ∷ rest)) (carried x deep (of_parameter (until e by to) []) k [])
    until_carried e by to is =
        let m = each_of (in_steps e) (in_steps by && in_steps to) is in
        let l = each_of (in_steps by) (in_steps to) m.1 in
        (λ j. number_of i e >>= (λ a. number_of i by >>= (λ b. number_of i to >>= (λ c.
        put_at (at_local index []) (number_text a) >> within_limit (is_past b a c) index rest body (limited b c) j))))
        ∙ (λ j. number_of i e >>= (λ a. number_of i by >>= (λ b. number_of i to >>= (λ c.
        sym (index_then k (put_at (at_local index []) (number_text a)) (begun_within a b c)) j))))
        ∙ (λ j. number_of i e >>= (λ a. number_of i by >>= (λ b. sym (number_carried k to (a ∷ b ∷ []) [] l.1) j)))
        ∙ sym (two_carried e by (of_value to (Number ∷ [])) (rw (m.0, l.0) refl))

    parameter_carried : (q : ParameterTree) → in_steps_parameter q ≡ true
        → Alike (next_parameter x index body (q ∷ rest)) (carried x deep (of_parameter q []) k [])
    parameter_carried (once e) is = once_carried e is
    parameter_carried (onward e by) is = onward_carried e by is
    parameter_carried (until e by to) is = until_carried e by to is

  by_program : (a : ArgTree) (c : Bool) (ops : List Op) (k : Ending) (p : Program) → program_if c ops k ≡ Some p
      → (c ≡ true → Alike (argument x a) (carried x deep ops k [])) → Alike (argument x a) (does p)
  by_program a c ops k p h f = if_there does (argument x a) c ops k p h f

  none_there : (a : ArgTree) (p : Program) → None ≡ Some p → Alike (argument x a) (does p)
  none_there a p h = absurd (let clash : ◌≡◌ {A = Option Program} None (Some p) = h in cc)

  pub argument_carried : (a : ArgTree) (p : Program) → program_of a ≡ Some p → Alike (argument x a) (does p)
  argument_carried (assign d e) p h = by_program (assign d e) _ _ _ p h (set_carried d e)
  argument_carried (formats run None) p h = none_there (formats run None) p h
  argument_carried (formats run (Some e)) p h = by_program (formats run (Some e)) _ _ _ p h (tab_carried run e)
  argument_carried (coded e) p h = by_program (coded e) _ _ _ p h (λ is. with_value e character_written ∙ sym (value_carried x deep Character e [] [] is))
  argument_carried (shown e) p h = by_program (shown e) _ _ _ p h (λ is. with_value e write ∙ sym (value_carried x deep Show e [] [] is))
  argument_carried (kill_one r) p h = by_program (kill_one r) _ _ _ p h (kill_carried r)
  argument_carried (kill_others names) p h = none_there (kill_others names) p h
  argument_carried (new_one name) p h = none_there (new_one name) p h
  argument_carried (new_others names) p h = none_there (new_others names) p h
  argument_carried (tested e) p h = by_program (tested e) _ _ _ p h (λ is. sym (value_carried x deep Test e [] [] is))
  argument_carried (loop index parameters) p h = by_program (loop index parameters) _ _ _ p h (λ is. refl)
  argument_carried (do_one e xs c) p h = by_program (do_one e xs c) _ _ _ p h (λ is.
      let m = each_of (in_steps_actuals xs) (in_steps_optional c) is in
      condition_carried c (Begin ∷ of_list xs []) (Enter e (is_list xs)) (doing x e xs) m.1 (called_carried e xs m.0))
  argument_carried (go_to e c) p h = by_program (go_to e c) _ _ _ p h (λ is. condition_carried c [] (Go e) (going x e) is refl)
  argument_carried (executed e c) p h = by_program (executed e c) _ _ _ p h (λ is.
      let m = each_of (in_steps e) (in_steps_optional c) is in
      condition_carried c (of_value e []) Run (executing x e) m.1 (sym (value_carried x deep Run e [] [] m.0)))
  argument_carried (locked k names t) p h = by_program (locked k names t) _ _ _ p h (lock_carried k names t)
  argument_carried (hang_for e) p h = by_program (hang_for e) _ _ _ p h (hang_carried e)
  argument_carried (returned e) p h = by_program (returned e) _ _ _ p h (λ is. sym (value_carried x deep Return e [] [] is))
  argument_carried (merge_one target source) p h = by_program (merge_one target source) _ _ _ p h (merge_carried target source)
  argument_carried (indirect_args f p') p h = by_program (indirect_args f p') _ _ _ p h (λ is. sym (primary_carried x deep (Indirect f) p' [] [] is))

pub programs_carry_arguments : ProgramsCarryArguments
programs_carry_arguments x a p h = argument_carried x a p h

pub programs_carry_conditions : ProgramsCarryConditions
programs_carry_conditions x e p q h =
    if_there (λ p. carried x x.position.depth p.steps p.ending [] >>= once_true q) (where_holds x (Some e) q) (in_steps e) (of_value e []) Hold p h (held x e q)

pub programs_carry_parameters : ProgramsCarryParameters
programs_carry_parameters x index q rest body p h =
    if_there (λ p. carried x x.position.depth p.steps p.ending []) (next_parameter x index body
    (q ∷ rest)) (in_steps_parameter q) (of_parameter q []) (Loop index rest body) p h
    (parameter_carried x index rest body q)
