-- SPDX-License-Identifier: Apache-2.0
-- Where programs pause, and how they go on.
use Rattle.mmeaning.proofs.MeaningWords.{◌≡◌, ℕ, zero, suc, cond, Bool, List, [], ◌∷◌, Option, Some, None, refl, sym, ◌∙◌, Text, Act, ◌>>=◌, give}
use Rattle.mmeaning.proofs.MeaningWords.{EntryTree, Completion, Position, Context, context}
use Rattle.mspec.specs.Scopes.{Binding}
use Rattle.mmeaning.specs.Operators.{as_truth}
use Rattle.mmeaning.specs.Levels.{answers}
use Rattle.mmeaning.specs.Expression.{Depth, indirected, named_by}
use Rattle.mmeaning.specs.Variables.{Evaluated, with_more}
use Rattle.mmeaning.specs.Parameters.{bare_list}
use Rattle.mmeaning.specs.LineMeaning.{at_depth, entering, returned_value, answer, effect, where_holds}
use Rattle.mmeaning.specs.Programs.{Item, one_value, some_values, found, handing, outside, Op, Call, Unless, Pass, Deeper, Attach, plain}
use Rattle.mmeaning.specs.Programs.{Ending, Enter, Run, Indirect, Loop, step, ended_by, going_on}
use Rattle.mmeaning.specs.Programs.{carried_past, looped, carried, Pause, over, turns, end_begun, begun_on, begun_past, begun}
use Rattle.mmeaning.specs.Frames.{Lists, Programs, Conditions, frame, resumed}
use Rattle.mmeaning.specs.ProgramLaws.{ProgramsPause, ProgramsTakeValues, ConditionsGoOn, ArgumentsPause, ConditionsPause, ParametersPause}
use Rattle.mmeaning.proofs.Calls.{assoc, ended}
use Rattle.mmeaning.proofs.ProgramSteps.{stepped}
use Rattle.mmeaning.proofs.ProgramArguments.{programs_carry_arguments, programs_carry_conditions, programs_carry_parameters}

module _ (a : Text) (n : ℕ) (p : Position) (d : Depth) (k : Ending) where
  abbrev x : Context
  x = context a n p

  abbrev Alike : Act Completion → Act Completion → Type 0
  Alike q r = ◌≡◌ {A = Act Completion} q r

  abbrev then_resumed : Act Pause → Act Completion
  then_resumed q = q >>= resumed a n p k

  -- what pauses nowhere
  goes_over : (q : Act Completion) → Alike q (then_resumed (q >>= (λ s. give (over s))))
  goes_over q = sym (ended q) ∙ sym (assoc q (λ s. give (over s)) (resumed a n p k))

  rest_pauses : (ops : List Op) → ((st : List Item) → Alike (carried x d ops k st) (then_resumed (begun x d ops k st)))
      → (r : Option (List Item)) → Alike (going_on (carried x d ops k) r) (then_resumed (begun_on (begun x d ops k) r))
  rest_pauses ops h None = refl
  rest_pauses ops h (Some st) = h st

  step_pauses : (o : Op) (ops : List Op) (st : List Item) → ((st : List Item) → Alike (carried x d ops k st) (then_resumed (begun x d ops k st)))
      → Alike (step (at_depth x d) o st >>= going_on (carried x d ops k)) (then_resumed (step (at_depth x d) o st >>= begun_on (begun x d ops k)))
  step_pauses o ops st h =
      (λ j. step (at_depth x d) o st >>= (λ r. rest_pauses ops h r j))
      ∙ sym (assoc (step (at_depth x d) o st) (begun_on (begun x d ops k)) (resumed a n p k))

  call_pauses : (e : EntryTree) (b : Bool) (bs : List Binding) (ops : List Op) (st : List Item)
      → Alike (carried x d (Call e ∷ ops) k (handing b bs ∷ st)) (entering (at_depth x d) e bare_list bs (answers b) >>= frame a n (Programs p d ops k st))
  call_pauses e b bs ops st =
      stepped x d k (answer (at_depth x d) e bs b) (λ v. one_value v ∷ st) ops
      ∙ assoc (entering (at_depth x d) e bare_list bs (answers b)) returned_value (λ v. carried x d ops k (one_value v ∷ st))

end_pauses : (a : Text) (n : ℕ) (p : Position) (d : Depth) (k : Ending) (st : List Item)
    → Alike a n p d k (ended_by (context a n p) k st) (then_resumed a n p d k (end_begun (context a n p) k st))
end_pauses a n p d (Enter e is_listed) (handing b bs ∷ st) = refl
end_pauses a n p d Run (one_value v ∷ st) = refl
end_pauses a n p d (Indirect f) (one_value v ∷ st) = refl
end_pauses a n p d (Loop index rest body) (i ∷ st) = sym (assoc (looped index i) (λ c. give (turns c)) (resumed a n p (Loop index rest body)))
end_pauses a n p d k st = goes_over a n p d k (ended_by (context a n p) k st)

-- once this many steps are passed by
pub all_pause : (a : Text) (n : ℕ) (p : Position) (d : Depth) (k : Ending) (m : ℕ) (ops : List Op) (st : List Item)
    → Alike a n p d k (carried_past (context a n p) d m ops k st) (then_resumed a n p d k (begun_past (context a n p) d m ops k st))
all_pause a n p d k m [] st = end_pauses a n p d k st
all_pause a n p d k zero (Call e ∷ ops) (handing b bs ∷ st) = call_pauses a n p d k e b bs ops st
all_pause a n p d k zero (Unless m ∷ ops) (one_value v ∷ st) =
    (λ j. as_truth v >>= (λ b. all_pause a n p d k (cond b 0 m) ops st j))
    ∙ sym (assoc (as_truth v) (λ b. begun_past (context a n p) d (cond b 0 m) ops k st) (resumed a n p k))
all_pause a n p d k zero (Pass m ∷ ops) st = all_pause a n p d k m ops st
all_pause a n p d k zero (Deeper ∷ ops) (one_value v ∷ st) =
    let named = named_by (plain (at_depth (context a n p) d)) v in
    let below = λ (r : Evaluated). outside d r ∷ st in
    (λ j. named >>= (λ r. all_pause a n p (indirected d) k 0 ops (below r) j))
    ∙ sym (assoc named (λ r. begun_past (context a n p) (indirected d) 0 ops k (below r)) (resumed a n p k))
all_pause a n p d k zero (Attach ∷ ops) (some_values vs ∷ outside c r ∷ st) = all_pause a n p c k 0 ops (found (with_more vs r) ∷ st)
all_pause a n p d k zero (o ∷ ops) st = step_pauses a n p d k o ops st (λ st. all_pause a n p d k 0 ops st)
all_pause a n p d k (suc m) (o ∷ ops) st = all_pause a n p d k m ops st

pub programs_pause : ProgramsPause
programs_pause a n p d ops k st = all_pause a n p d k 0 ops st

pub programs_take_values : ProgramsTakeValues
programs_take_values a n p d ops k st v = refl

pub conditions_go_on : ConditionsGoOn
conditions_go_on a n p c rest e q is h =
    (λ j. where_holds (context a n p) (is j) (effect (context a n p) c.keyword c.args rest))
    ∙ programs_carry_conditions (context a n p) e q (effect (context a n p) c.keyword c.args rest) h

-- ---- before the rest of a line

pub arguments_pause : ArgumentsPause
arguments_pause a n p arg rest q h =
    (λ j. programs_carry_arguments (context a n p) arg q h j >>= frame a n (Lists p rest))
    ∙ (λ j. programs_pause a n p p.depth q.steps q.ending [] j >>= frame a n (Lists p rest))
    ∙ assoc (begun (context a n p) p.depth q.steps q.ending []) (resumed a n p q.ending) (frame a n (Lists p rest))

pub conditions_pause : ConditionsPause
conditions_pause a n p c rest e q is h =
    conditions_go_on a n p c rest e q is h
    ∙ (λ j. programs_pause a n p p.depth q.steps q.ending [] j >>= frame a n (Conditions p c rest))
    ∙ assoc (begun (context a n p) p.depth q.steps q.ending []) (resumed a n p q.ending) (frame a n (Conditions p c rest))

pub parameters_pause : ParametersPause
parameters_pause a n p index q rest body r h =
    programs_carry_parameters (context a n p) index q rest body r h
    ∙ programs_pause a n p p.depth r.steps r.ending []
