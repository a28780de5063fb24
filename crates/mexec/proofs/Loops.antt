-- SPDX-License-Identifier: Apache-2.0
-- The turns of a FOR: what the code does one after another is what the meaning has inside of one act.
use Rattle.mexec.proofs.ExecWords.{◌≡◌, ℤ, ◌+ℤ◌, ℕ, ◌<◌, Bool, true, false, cond, List, [], ◌∷◌, Option, Some, None, Result, Ok, Err, length, get_or, map, drop}
use Rattle.mexec.proofs.ExecWords.{refl, sym, ap, ◌∙◌, subst, arith, ◌≤◌, ◌+◌, ◌-◌, Text, Act, ◌>>=◌, ◌>>◌, give, charge, IsErr, IsErrAnd, IfOk, next_item}
use Rattle.mexec.proofs.ExecWords.{none_left, ExprTree, ParameterTree, once, onward, until, CommandTree, Inside, as_text, value, Context, Turning}
use Rattle.mexec.proofs.ExecWords.{context, inside_of, index_number, number_of, next_parameter, after_course, begin_turn, View, assoc, parameter_tree, Ghosts}
use Rattle.mexec.proofs.ExecWords.{Code, Parts, DoesAt, course_view, added, advanced, ForLoop, Runs, commands_from, loop_before, turning, completion_of}
use Rattle.mexec.proofs.ExecWords.{position_of, Position, Completion}
use Rattle.mspec.specs.Number.{sum_of}
use Rattle.mspec.specs.NumberText.{number_text}
use Rattle.mmeaning.specs.Courses.{Course, last_turn, endless, limited, forever, is_past}
use Rattle.mmeaning.specs.Variables.{at_local, put_at}
use Rattle.mmeaning.specs.LineMeaning as meaning
use Rattle.mmeaning.specs.Frames as frames
use Rattle.mtree.specs.declared.tree.Parameter.{Parameter}
use Rattle.mcommand.specs.ForParameters.{start_and_increment, started}
use Rattle.mexec.specs.declared.completion.Completion.TheVariants as completion
use Rattle.std.specs.Prelude.{suc, slice_get, option_map}
use Rattle.std.proofs.lemmas.Option.{slice_get_read, slice_get_within}
use Rattle.mgrammar.specs.CallsIn.{has_call_parameter}
use Rattle.mgrammar.specs.ProgramsIn.{in_steps_parameter}
use Rattle.mmeaning.specs.Frames.{resumed}
use Rattle.mmeaning.specs.Programs as programs
use Rattle.mmeaning.specs.Programs.{Pause, turns, Loop, turned, begun_within}
use Rattle.mmeaning.proofs.ProgramFrames.{parameters_pause}
use Rattle.mprogram.specs.StepLaws.{whole_program}
use Rattle.mprogram.specs.Wholes.{WholeTree, of_parameter, steps_of, ending_of}
use Rattle.mprogram.proofs.StepsThere.{parameters_have_programs}
use Rattle.mtree.specs.declared.tree.Line.{Line}
use Rattle.mtree.specs.declared.tree.Spaced.{Spaced}
use Rattle.mexec.specs.Loops.{args_of, has_index, is_loop, spaced_before}
use Rattle.mexec.specs.Frames.{RunsFurther, RunsWithin, rest_tree, turning_at}
use Rattle.mexec.specs.declared.frames.Continuation.{Continuation}
use Rattle.mcommand.specs.declared.for_parameter.Course as the_course
use Rattle.mexec.specs.Programs.{parameter_started}
use Rattle.mexec.specs.Wholes.{parameter_in, parameter_of}
use Rattle.mexec.proofs.Calls.{runs_as, runs_within, frame_below, runs_completion, within_then, within_stopped, within_spent, further_if, further_then, further_stopped}

-- ---- acts

two : {A B C D : Type 0} (p : Act A) (q : Act B) (f : A → B → Act C) (k : C → Act D)
    → ◌≡◌ {A = Act D} ((p >>= (λ a. q >>= (λ b. f a b))) >>= k) (p >>= (λ a. q >>= (λ b. f a b >>= k)))
two p q f k = assoc p (λ a. q >>= (λ b. f a b)) k ∙ (λ i. p >>= (λ a. assoc q (λ b. f a b) k i))

-- with a start and an increment
numbers_then : {A B : Type 0} (i : Inside) (e by : ExprTree) (f : ℤ × ℤ → Act A) (k : A → Act B)
    → ◌≡◌ {A = Act B} ((start_and_increment i e by >>= f) >>= k) (number_of i e >>= (λ a. number_of i by >>= (λ b. f (a, b) >>= k)))
numbers_then i e by f k = assoc (start_and_increment i e by) f k ∙ two (number_of i e) (number_of i by) (λ a b. give (a, b)) (λ numbers. f numbers >>= k)

past_or_not : {A : Type 0} {B : Type 0} (b : Bool) (u v : A) (k : A → B) → k (cond b u v) ≡ cond b (k u) (k v)
past_or_not true u v k = refl
past_or_not false u v k = refl

-- ---- parameters

-- what is done once a parameter's index is set
abbrev begun : Context → Text → List CommandTree → List ParameterTree → Option Course → Act meaning.Completion
begun x index body rest = turned x (Loop index rest body)

next_is : (x : Context) (index : Text) (body : List CommandTree) (p : ParameterTree) (rest : List ParameterTree)
    → ◌≡◌ {A = Act meaning.Completion} (next_parameter x index body (p ∷ rest)) (started (inside_of x) index p >>= begun x index body rest)
next_is x index body (once e) rest = sym (assoc (value (inside_of x) e) (λ a. put_at (at_local index []) a >> give (Some last_turn)) (begun x index body rest))
next_is x index body (onward e by) rest =
    sym
    (numbers_then (inside_of x) e by (λ numbers. put_at (at_local index []) (number_text numbers.0) >> give (Some (endless numbers.1))) (begun x index body rest))
next_is x index body (until e by to) rest = sym (
    numbers_then (inside_of x) e by (λ numbers. number_of (inside_of x) to >>= (λ limit. put_at (at_local index []) (number_text numbers.0) >> give (begun_within numbers.0 numbers.1 limit))) (begun x index body rest)
    ∙ (λ i. number_of (inside_of x) e >>= (λ a. number_of (inside_of x) by >>= (λ b.
    assoc (number_of (inside_of x) to) (λ limit. put_at (at_local index []) (number_text a) >> give (begun_within a b limit)) (begun x index body rest) i)))
    ∙ (λ i. number_of (inside_of x) e >>= (λ a. number_of (inside_of x) by >>= (λ b. number_of (inside_of x) to >>= (λ c.
    put_at (at_local index []) (number_text a) >> past_or_not {B = Act meaning.Completion} (is_past b a c) None (Some (limited b c)) (begun x index body rest) i)))))

-- one without a call, and one with a call
pub started_unpaused : (x : Context) (index : Text) (q : ParameterTree) (rest : List ParameterTree) (body : List CommandTree) → has_call_parameter q ≡ false
    → ◌≡◌ {A = Act Pause} (parameter_started x index q rest body) (started (inside_of x) index q >>= (λ c. give (turns c)))
started_unpaused x index q rest body none =
    ap (λ b. cond b (programs.begun x x.position.depth (steps_of (of_parameter index q rest body)) (Loop index rest body) [])
    (started (inside_of x) index q >>= (λ c. give (turns c)))) none

pub started_paused : (x : Context) (index : Text) (q : ParameterTree) (rest : List ParameterTree) (body : List CommandTree) → has_call_parameter q ≡ true
    → ◌≡◌ {A = Act Pause} (parameter_started x index q rest body)
    (programs.begun x x.position.depth (steps_of (of_parameter index q rest body)) (Loop index rest body) [])
started_paused x index q rest body has =
    ap (λ b. cond b (programs.begun x x.position.depth (steps_of (of_parameter index q rest body)) (Loop index rest body) [])
    (started (inside_of x) index q >>= (λ c. give (turns c)))) has

-- a parameter is begun, and then there is what it leads to
parameter_is : (a : Text) (n : ℕ) (d : Position) (index : Text) (q : ParameterTree) (rest : List ParameterTree) (body : List CommandTree)
    → in_steps_parameter q ≡ true
    → ◌≡◌ {A = Act meaning.Completion} (next_parameter (context a n d) index body (q ∷ rest)) (parameter_started (context a n d) index q rest body >>= resumed a n d (Loop index rest body))
parameter_is a n d index q rest body is = either (has_call_parameter q)
  where
    either : (b : Bool) → ◌≡◌ {A = Act meaning.Completion} (next_parameter (context a n d) index body (q ∷ rest))
        (cond b (programs.begun (context a n d) d.depth (steps_of (of_parameter index q rest body)) (Loop index rest body) [])
        (started (inside_of (context a n d)) index q >>= (λ c. give (turns c))) >>= resumed a n d (Loop index rest body))
    either true = parameters_pause a n d index q rest body (whole_program (of_parameter index q rest body)) (parameters_have_programs index q rest body is)
    either false =
        next_is (context a n d) index body q rest
        ∙ sym (assoc (started (inside_of (context a n d)) index q) (λ c. give (turns c)) (resumed a n d (Loop index rest body)))

-- ---- after a turn

-- what is done once it is known whether there is one more turn
abbrev pub gone_on : Context → Turning → Bool → Act meaning.Completion
gone_on x t b = cond b (begin_turn x t) (next_parameter x t.index t.body t.parameters)

added_is : (x : Context) (t : Turning) (n by : ℤ) → ◌≡◌ {A = Act meaning.Completion} (added t.index n by >>= gone_on x t) (meaning.stepped x t n by)
added_is x t n by = assoc (as_text (sum_of n by)) (λ next. put_at (at_local t.index []) next >> give true) (gone_on x t)

pub course_is : (x : Context) (t : Turning) (c : Course) → ◌≡◌ {A = Act meaning.Completion} (after_course x t c) (advanced t.index c >>= gone_on x t)
course_is x t last_turn = refl
course_is x t (endless by) =
    sym (assoc (index_number t.index) (λ n. added t.index n by) (gone_on x t) ∙ (λ i. index_number t.index >>= (λ n. added_is x t n by i)))
course_is x t (limited by limit) = sym (
    assoc (index_number t.index) (λ n. cond (is_past by (n +ℤ by) limit) (give false) (added t.index n by)) (gone_on x t)
    ∙ (λ i. index_number t.index >>= (λ n. limited_is x t n by (is_past by (n +ℤ by) limit) i)))
  where
    limited_is : (x : Context) (t : Turning) (n by : ℤ) (b : Bool)
        → ◌≡◌ {A = Act meaning.Completion} (cond b (give false) (added t.index n by) >>= gone_on x t) (cond b (next_parameter x t.index t.body t.parameters) (meaning.stepped x t n by))
    limited_is x t n by true = refl
    limited_is x t n by false = added_is x t n by
course_is x t forever = refl

-- ---- a turn

module _ {S X : Type 0} {g : Ghosts S} {f : X → Unit {0}} {u : X} {old mid : Parts S} (d : Position) (t : Turning) (c : DoesAt g (λ a n. charge) f old (Ok u) mid) (less : mid.eval.steps < old.eval.steps) where
  -- once its step is spent its body is done, with the turns below it
  pub turn_begins : {fs fs' : List View} {new : Parts S} {r : Result Completion Code}
      → Runs g (λ a n. meaning.commands (context a n d) t.body) (frames.Turns d t ∷ fs) mid r fs' new
      → RunsWithin g (λ a n. begin_turn (context a n d) t) fs old r fs' new
  turn_begins k = within_spent (λ a n _. (context a n d).texts.turn d t) c less (frame_below (frames.Turns d t) (λ s n h. h) (runs_within k))

  -- the same at once
  pub turn_done : {s : Completion} {fs fs' : List View} {next new : Parts S} {r : Result Completion Code}
      → DoesAt g (λ a n. meaning.commands (context a n d) t.body) completion_of mid (Ok s) next
      → RunsWithin g (λ a n. meaning.after_turn (context a n d) t (completion_of s)) fs next r fs' new
      → RunsWithin g (λ a n. begin_turn (context a n d) t) fs old r fs' new
  turn_done does k = within_spent (λ a n _. (context a n d).texts.turn d t) c less (within_then (λ a n s. meaning.after_turn (context a n d) t s) does k)

-- and if there is no step for it
pub turn_charge_failed : {S X : Type 0} {g : Ghosts S} {f : X → Unit {0}} {fs fs' : List View} {old new : Parts S} {r : Result Completion Code} {e : Code} (d : Position) (t : Turning)
    → DoesAt g (λ a n. charge) f old (Err e) new
    → IsErr r × IsErrAnd r (λ x. x ≡ e) → RunsWithin g (λ a n. begin_turn (context a n d) t) fs old r fs' new
turn_charge_failed d t c h = within_stopped (λ a n _. (context a n d).texts.turn d t) c h

-- if a call fails, nothing falls
pub falls_failed : {X E : Type 0} (P : X → Type 0) (r : Result X E) → IsErr r → IfOk r P
falls_failed P (Ok x) h = cc
falls_failed P (Err e) h = tt

-- what falls from a later point on falls from an earlier one on
pub falls_within : {X E : Type 0} (left from to : ℕ) (r : Result X E) → from ≤ to → IfOk r (λ _. left ≤ from) → IfOk r (λ _. left ≤ to)
falls_within left from to (Ok x) few h = omega (arith, few, h)
falls_within left from to (Err e) few h = tt

-- what is one less falls from one more
pub falls_one_more : {X E : Type 0} (left from to : ℕ) (r : Result X E) → from ≤ to + 1 → IfOk r (λ _. left + 1 ≤ from) → IfOk r (λ _. left ≤ to)
falls_one_more left from to (Ok x) few h = omega (arith, few, h)
falls_one_more left from to (Err e) few h = tt

-- what falls once a frame was taken off: one that counts one, and one that counts three
pub falls_off : {X E : Type 0} (left from : ℕ) (r : Result X E) → IfOk r (λ _. left ≤ from) → IfOk r (λ _. left + 1 ≤ from + 1)
falls_off left from (Ok x) h = omega (arith, h)
falls_off left from (Err e) h = tt

pub falls_off_program : {X E : Type 0} (left from : ℕ) (r : Result X E) → IfOk r (λ _. left ≤ from + 2) → IfOk r (λ _. left + 1 ≤ from + 3)
falls_off_program left from (Ok x) h = omega (arith, h)
falls_off_program left from (Err e) h = tt

-- ---- turns as the frames have them

-- those of a FOR with an index, from one of its parameters on
pub turning_from : (body : Continuation) (k : ℕ) (c : the_course.Course) (index : Text) (parameters : List Parameter)
    → loop_before body.line.value body.at ≡ (index, parameters)
    → turning_at body k c ≡ record { index = index; course = course_view c; parameters = map parameter_tree (drop k parameters); body = commands_from body.line.value body.at }
turning_from body k c index parameters e =
    λ i. record { index = (e i).0; course = course_view c; parameters = map parameter_tree (drop k (e i).1); body = commands_from body.line.value body.at }

turning_of : (t : ForLoop) (index : Text) (parameters : List Parameter) → loop_before t.body.line.value t.body.at ≡ (index, parameters)
    → turning t ≡ record { index = index; course = course_view t.course; parameters = map parameter_tree (drop t.parameter parameters); body = commands_from t.body.line.value t.body.at }
turning_of t index parameters e =
    λ i. record { index = (e i).0; course = course_view t.course; parameters = map parameter_tree (drop t.parameter (e i).1); body = commands_from t.body.line.value t.body.at }

-- and of one without an index
pub turning_of_none : (t : ForLoop) → loop_before t.body.line.value t.body.at ≡ ([], [])
    → turning t ≡ record { index = []; course = course_view t.course; parameters = []; body = commands_from t.body.line.value t.body.at }
turning_of_none t e =
    turning_of t [] [] e ∙
    (λ i. record { index = []; course = course_view t.course; parameters = map parameter_tree (none_left t.parameter [] (omega arith) i); body = commands_from t.body.line.value t.body.at })

-- ---- calls

-- what a parameter's place has
module _ (found : Text × List Parameter) (body : List CommandTree) (k : ℕ) where
  its_ending : (o : Option Parameter) (w : WholeTree)
      → option_map (λ q. of_parameter found.0 (parameter_tree q) (map parameter_tree (drop (k + 1) found.1)) body) o ≡ Some w
      → ending_of w ≡ Loop found.0 (map parameter_tree (drop (k + 1) found.1)) body
  its_ending None w h = absurd (let clash : ◌≡◌ {A = Option WholeTree} None (Some w) = h in cc)
  its_ending (Some q) w h =
      let same : of_parameter found.0 (parameter_tree q) (map parameter_tree (drop (k + 1) found.1)) body ≡ w = cc in
      sym (ap ending_of same)

  pub parameter_ending : (w : WholeTree) → parameter_in found body k ≡ Some w → ending_of w ≡ Loop found.0 (map parameter_tree (drop (k + 1) found.1)) body
  parameter_ending w h = its_ending (slice_get found.1 k) w h

-- where a line's body is done
abbrev in_line : Continuation → Text → ℕ → Context
in_line b a n = context a n (position_of b.position.value)

-- a parameter's program at its end: the turns of the parameters after it, or those of its own course
module _ (b : Continuation) (k : ℕ) (w : WholeTree) (there : parameter_of b.line.value b.at k ≡ Some w) where
  its_turns : (x : Context) (c : Option Course)
      → ◌≡◌ {A = Act meaning.Completion} (turned x (ending_of w) c)
      (turned x (Loop (loop_before b.line.value b.at).0 (map parameter_tree (drop (k + 1) (loop_before b.line.value b.at).1)) (rest_tree b)) c)
  its_turns x c = ap (λ e. turned x e c) (parameter_ending (loop_before b.line.value b.at) (rest_tree b) k w there)

  pub turned_on : {S : Type 0} {g : Ghosts S} {fs fs' : List View} {old new : Parts S} {r : Result Completion Code}
      → (next : ℕ) (index : Text) (parameters : List Parameter) → next ≡ k + 1 → loop_before b.line.value b.at ≡ (index, parameters)
      → RunsWithin g (λ a n. next_parameter (in_line b a n) index (rest_tree b) (map parameter_tree (drop next parameters))) fs old r fs' new
      → RunsWithin g (λ a n. turned (in_line b a n) (ending_of w) None) fs old r fs' new
  turned_on next index parameters same found runs =
      runs_as (λ a n.
      its_turns (in_line b a n) None
      ∙ (λ i. next_parameter (in_line b a n) (found i).0 (rest_tree b) (map parameter_tree (drop (sym same i) (found i).1)))) runs

  pub turned_to : {S : Type 0} {g : Ghosts S} {fs fs' : List View} {old new : Parts S} {r : Result Completion Code}
      → (next : ℕ) (c : the_course.Course) → next ≡ k + 1
      → RunsWithin g (λ a n. begin_turn (in_line b a n) (turning_at b next c)) fs old r fs' new
      → RunsWithin g (λ a n. turned (in_line b a n) (ending_of w) (Some (course_view c))) fs old r fs' new
  turned_to next c same runs =
      runs_as (λ a n. its_turns (in_line b a n) (Some (course_view c)) ∙ (λ i. begin_turn (in_line b a n) (turning_at b (sym same i) c))) runs

-- a FOR is before a place that is in the line
pub loop_within : (l : Line) (at : ℕ) → has_index l at ≡ true → at ≤ length l.commands.items
loop_within l at h = within (spaced_before l at) refl h
  where
    within : (o : Option Spaced) → spaced_before l at ≡ o → is_loop (args_of o) ≡ true → at ≤ length l.commands.items
    within None there h = absurd (let clash : false ≡ true = h in cc)
    within (Some s) there h = let less = slice_get_within l.commands.items (at - 1) s there in omega (arith, less)

-- one of the parameters of a FOR
pub parameter_there : (l : Line) (at : ℕ) (index : Text) (ps : List Parameter) (k : ℕ) (p : Parameter) → loop_before l at ≡ (index, ps) → k < length ps
    → p ≡ get_or ps k p
    → parameter_of l at k ≡ Some (of_parameter index (parameter_tree p) (map parameter_tree (drop (k + 1) ps)) (commands_from l at))
parameter_there l at index ps k p found less is =
    rw found (ap (option_map (λ q. of_parameter index (parameter_tree q) (map parameter_tree (drop (k + 1) ps)) (commands_from l at)))
    (slice_get_read ps (length ps) k p refl less is))

-- the parameters after one of them
abbrev left_after : List Parameter → ℕ → List ParameterTree
left_after ps k = map parameter_tree (drop (k + 1) ps)

module _ {S : Type 0} {g : Ghosts S} (d : Position) (index : Text) (body : List CommandTree) (ps : List Parameter) (k : ℕ) (p : Parameter) (less : k < length ps) (is : p ≡ get_or ps k p) (stepped : in_steps_parameter (parameter_tree p) ≡ true) {fs fs' : List View} where
  from_parameter : {old new : Parts S} {r : Result Completion Code}
      → RunsWithin g (λ a n. parameter_started (context a n d) index (parameter_tree p) (left_after ps k) body >>= resumed a n d (Loop index (left_after ps k) body)) fs old r fs' new
      → RunsWithin g (λ a n. next_parameter (context a n d) index body (map parameter_tree (drop k ps))) fs old r fs' new
  from_parameter {old = old} {new = new} {r = r} runs =
      subst (λ (xs : List Parameter). RunsWithin g (λ a n. next_parameter (context a n d) index body (map parameter_tree xs)) fs old r fs' new) (sym (next_item ps k p less is))
      (runs_as (λ a n. parameter_is a n d index (parameter_tree p) (left_after ps k) body stepped) runs)

  -- a parameter is begun, and then there is what it leads to
  pub parameter_runs : {X : Type 0} {view : X → Pause} {o : X} {old mid new : Parts S} {r : Result Completion Code}
      → DoesAt g (λ a n. parameter_started (context a (suc n) d) index (parameter_tree p) (left_after ps k) body) view old (Ok o) mid
      → RunsWithin g (λ a n. resumed a n d (Loop index (left_after ps k) body) (view o)) fs mid r fs' new
      → RunsWithin g (λ a n. next_parameter (context a n d) index body (map parameter_tree (drop k ps))) fs old r fs' new
  parameter_runs does runs =
      from_parameter (further_then (λ a n. parameter_started (context a n d) index (parameter_tree p) (left_after ps k) body) (λ a n. resumed a n d (Loop index (left_after ps k) body)) does runs)

  -- and where that opens a level, a step was spent
  pub parameter_calls : {X : Type 0} {view : X → Pause} {o : X} {old mid new : Parts S} {r : Result Completion Code}
      → DoesAt g (λ a n. parameter_started (context a (suc n) d) index (parameter_tree p) (left_after ps k) body) view old (Ok o) mid → mid.eval.steps < old.eval.steps
      → RunsFurther g (λ a n. resumed a n d (Loop index (left_after ps k) body) (view o)) fs mid r fs' new
      → RunsWithin g (λ a n. next_parameter (context a n d) index body (map parameter_tree (drop k ps))) fs old r fs' new
  parameter_calls does less runs =
      from_parameter (further_if (λ s n h. h) (λ a n. parameter_started (context a n d) index (parameter_tree p) (left_after ps k) body) (λ a n. resumed a n d (Loop index (left_after ps k) body)) does
      (λ n h. omega (arith, less, h)) runs)

  pub parameter_stopped : {X : Type 0} {view : X → Pause} {old new : Parts S} {r : Result Completion Code} {e : Code}
      → DoesAt g (λ a n. parameter_started (context a (suc n) d) index (parameter_tree p) (left_after ps k) body) view old (Err e) new
      → IsErr r × IsErrAnd r (λ x. x ≡ e)
      → RunsWithin g (λ a n. next_parameter (context a n d) index body (map parameter_tree (drop k ps))) fs old r fs' new
  parameter_stopped does h =
      from_parameter (further_stopped (λ a n. parameter_started (context a n d) index (parameter_tree p) (left_after ps k) body) (λ a n. resumed a n d (Loop index (left_after ps k) body)) does h)

-- the parameters that are left, once its index and its parameters are known
pub further_runs : {S : Type 0} {g : Ghosts S} {fs fs' : List View} {old new : Parts S} {r : Result Completion Code} (t : ForLoop) (index : Text) (parameters : List Parameter)
    → loop_before t.body.line.value t.body.at ≡ (index, parameters)
    → RunsWithin g (λ a n. next_parameter (context a n (position_of t.body.position.value)) index (commands_from t.body.line.value t.body.at) (map parameter_tree (drop t.parameter parameters))) fs old r fs' new
    → RunsWithin g (λ a n. next_parameter (context a n (position_of t.body.position.value)) (turning t).index (turning t).body (turning t).parameters) fs old r fs' new
further_runs t index parameters e k =
    runs_as (λ a n. ap (λ u. next_parameter (context a n (position_of t.body.position.value)) u.index u.body u.parameters) (turning_of t index parameters e)) k

-- and none of a FOR without an index
pub no_parameters_run : {S : Type 0} {g : Ghosts S} {fs : List View} {old : Parts S} (t : ForLoop) → loop_before t.body.line.value t.body.at ≡ ([], [])
    → RunsWithin g (λ a n. next_parameter (context a n (position_of t.body.position.value)) (turning t).index (turning t).body (turning t).parameters) fs old (Ok completion.Skips) fs old
no_parameters_run t e =
    runs_as (λ a n. ap (λ u. next_parameter (context a n (position_of t.body.position.value)) u.index u.body u.parameters) (turning_of_none t e))
    (runs_completion completion.Skips)

module _ {S : Type 0} {g : Ghosts S} (t : ForLoop) {fs fs' : List View} where
  pub course_runs : {b : Bool} {old mid new : Parts S} {r : Result Completion Code}
      → DoesAt g (λ a n. advanced (turning t).index (course_view t.course)) (λ (b : Bool). b) old (Ok b) mid
      → RunsWithin g (λ a n. gone_on (context a n (position_of t.body.position.value)) (turning t) b) fs mid r fs' new → RunsWithin g (λ a n. after_course (context a n (position_of t.body.position.value)) (turning t) (course_view t.course)) fs old r fs' new
  course_runs does k =
      runs_as (λ a n. course_is (context a n (position_of t.body.position.value)) (turning t) (course_view t.course))
      (within_then (λ a n. gone_on (context a n (position_of t.body.position.value)) (turning t)) does k)

  pub not_gone_on : {old new : Parts S} {r : Result Completion Code} {c : Code}
      → DoesAt g (λ a n. advanced (turning t).index (course_view t.course)) (λ (b : Bool). b) old (Err c) new → IsErr r × IsErrAnd r (λ x. x ≡ c)
      → RunsWithin g (λ a n. after_course (context a n (position_of t.body.position.value)) (turning t) (course_view t.course)) fs old r fs' new
  not_gone_on does h =
      runs_as (λ a n. course_is (context a n (position_of t.body.position.value)) (turning t) (course_view t.course))
      (within_stopped (λ a n. gone_on (context a n (position_of t.body.position.value)) (turning t)) does h)
