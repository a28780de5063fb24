-- SPDX-License-Identifier: Apache-2.0
-- Arguments, one after another: what the code does up to where lines or a text are entered, and then that, is what each does.
use Rattle.mexec.proofs.ExecWords.{arith, ◌≡◌, ◌≤◌, None, Some, ℕ, zero, suc, ◌+◌, ◌-◌, ◌<◌, [], ◌∷◌, IfOk, slice_get, spaced_tree, command_tree, parameter_tree, line_tree, ap}
use Rattle.mexec.proofs.ExecWords.{Line, source_args, args_before, position_of, Does, at_done, Bool, true, false, cond, List, Option, Result, Ok, Err, length}
use Rattle.mexec.proofs.ExecWords.{get_or, map, drop, refl, sym, ◌∙◌, subst, IsErr, IsErrAnd, Text, Act, ◌>>=◌, give, next_item, ExprTree, ArgTree, do_one}
use Rattle.mexec.proofs.ExecWords.{executed, indirect_args, inside, Context, Go_on, argument, context, holds, inside_of, assoc, ended, arg_tree, Arg, Ghosts}
use Rattle.mexec.proofs.ExecWords.{Code, Parts, DoesAt, completion_of, args_started, begun_of, Entrance, into_lines, into_text, entered, finished, start_of}
use Rattle.mexec.proofs.ExecWords.{entrance_of, where_applies, behind, over, stops, ends, progress_of, Progress, Position, Completion, started}
use Rattle.mmeaning.specs.LineMeaning as meaning
use Rattle.mtree.specs.declared.tree.Spaced.{Spaced}
use Rattle.mexec.specs.Loops.{args_of, loop_in, loop_before}
use Rattle.mtree.specs.declared.tree.Parameter.{Parameter}
use Rattle.mtree.specs.declared.tree.Arg.TheVariants as arg
use Rattle.mexec.specs.declared.frames.Continuation.{Continuation}
use Rattle.mexec.specs.declared.arguments.Entrance as entrances
use Rattle.mexec.specs.declared.arguments.Entrance.TheVariants as entrance
use Rattle.mexec.specs.declared.completion.Progress as the_progress
use Rattle.mexec.specs.declared.completion.Progress.TheVariants as progress
use Rattle.mexec.specs.declared.completion.Completion.TheVariants as completion
use Rattle.mgrammar.specs.CallsIn.{has_call_optional, has_call_arg, has_call_spaced, has_call_line, has_call_parameter}
use Rattle.mgrammar.specs.ProgramsIn.{in_steps_parameter, in_steps_arg}
use Rattle.std.specs.List.{list_any, list_all}
use Rattle.mmeaning.proofs.Uncalled.{neither}
use Rattle.mexec.specs.Arguments.{Enters, IsReady, ahead, into_pause, program_started, progress_at, started_plainly}
use Rattle.mmeaning.specs.Programs as programs
use Rattle.mmeaning.specs.Programs.{Ending, Pause, begun}
use Rattle.mmeaning.specs.Frames.{resumed}
use Rattle.mmeaning.proofs.ProgramArguments.{programs_carry_arguments}
use Rattle.mmeaning.proofs.ProgramFrames.{programs_pause}
use Rattle.mprogram.specs.StepLaws.{whole_program}
use Rattle.mprogram.specs.Wholes.{WholeTree, of_argument, steps_of, ending_of}
use Rattle.mexec.specs.Programs.{pause_of}
use Rattle.mexec.specs.declared.programs.Pause as the_pause
use Rattle.mexec.specs.declared.programs.Pause.TheVariants as pause
use Rattle.mexec.specs.declared.completion.Completion as completions
use Rattle.mprogram.proofs.StepsThere.{calls_have_programs}
use Rattle.mexec.specs.Frames.{source_since}
use Rattle.mexec.proofs.PlayedTexts.{before_stepped, one_stepped, played_plain}
use Rattle.mgrammar.proofs.ProfileCalls.{profile_args_have_no_call}
use Rattle.mmeaning.proofs.ProgramSteps.{each_of}
use Rattle.mexec.specs.Progress.{IfStops}
use Rattle.mexec.specs.declared.frames.Position as positions
use Rattle.mexec.specs.declared.source.Source.{Source}
use Rattle.mexec.specs.declared.source.Source.TheVariants as source
use Rattle.mexec.proofs.Here.{holds_here}
use Rattle.mexec.proofs.Calls.{at_then, at_failed, at_stopped, at_gives, at_as}

-- ---- acts

module _ (x : Context) where
  plain : (p : Act meaning.Completion) → ◌≡◌ {A = Act meaning.Completion} p (p >>= (λ s. give (over s)) >>= finished x)
  plain p = sym (assoc p (λ s. give (over s)) (finished x) ∙ ended p)

  where_entered : (c : Option ExprTree) (e : Entrance)
      → ◌≡◌ {A = Act meaning.Completion} (meaning.where_holds x c (entered x e))
      (holds (inside_of x) c >>= (λ b. give (cond b (stops e) (over Go_on))) >>= finished x)
  where_entered c e = sym (
      assoc (holds (inside_of x) c) (λ b. give (cond b (stops e) (over Go_on))) (finished x)
      ∙ (λ i. holds (inside_of x) c >>= (λ b. either b i)))
    where
      either : (b : Bool) → ◌≡◌ {A = Act meaning.Completion} (finished x (cond b (stops e) (over Go_on))) (cond b (entered x e) (give Go_on))
      either b = grind arith

  plainly_is : (a : ArgTree) → ◌≡◌ {A = Act meaning.Completion} (argument x a) (started_plainly x a >>= finished x)
  plainly_is (do_one e xs c) = where_entered c (into_lines (e, xs))
  plainly_is (executed e c) = where_entered c (into_text e)
  plainly_is (indirect_args f p) = refl
  plainly_is a = plain (argument x a)

  -- one without a call, and one with a call
  pub started_without : (a : ArgTree) → has_call_arg a ≡ false → ◌≡◌ {A = Act (Progress Entrance)} (started x a) (started_plainly x a)
  started_without a none = ap (λ b. cond b (program_started x a) (started_plainly x a)) none

  pub started_with : (a : ArgTree) → has_call_arg a ≡ true → ◌≡◌ {A = Act (Progress Entrance)} (started x a) (program_started x a)
  started_with a has = ap (λ b. cond b (program_started x a) (started_plainly x a)) has

module _ (b : Text) (n : ℕ) (p : Position) where
  abbrev here : Context
  here = context b n p

  -- how far a program has come, and then what that leads to
  progress_is : (k : Ending) (r : Pause) → ◌≡◌ {A = Act meaning.Completion} (resumed b n p k r) (finished here (progress_at k r))
  progress_is k (programs.over s) = refl
  progress_is k r = refl

  program_is : (a : ArgTree) → has_call_arg a ≡ true → in_steps_arg a ≡ true
      → ◌≡◌ {A = Act meaning.Completion} (argument here a) (program_started here a >>= finished here)
  program_is a has is =
      let w = of_argument a in
      programs_carry_arguments here a (whole_program w) (calls_have_programs a has is)
      ∙ programs_pause b n p p.depth (steps_of w) (ending_of w) []
      ∙ (λ i. begun here p.depth (steps_of w) (ending_of w) [] >>= (λ r. progress_is (ending_of w) r i))
      ∙ sym (assoc (begun here p.depth (steps_of w) (ending_of w) []) (λ r. give (progress_at (ending_of w) r)) (finished here))

  pub argument_is : (a : ArgTree) → in_steps_arg a ≡ true → ◌≡◌ {A = Act meaning.Completion} (argument here a) (started here a >>= finished here)
  argument_is a is = either (has_call_arg a) refl
    where
      either : (c : Bool) → has_call_arg a ≡ c → ◌≡◌ {A = Act meaning.Completion} (argument here a) (started here a >>= finished here)
      either true has = program_is a has is ∙ (λ i. sym (started_with here a has) i >>= finished here)
      either false none = plainly_is here a ∙ (λ i. sym (started_without here a none) i >>= finished here)

-- ---- what calls no function

-- one that enters if its condition holds
pub where_enters : (P : entrances.Entrance → Type 0) (r : Result Bool Code) (e : entrances.Entrance) → P e
    → IfOk (where_applies r e) (λ progress. IfStops progress P)
where_enters P (Ok true) e is = is
where_enters P (Ok false) e is = tt
where_enters P (Err c) e is = tt

-- one of a list
pub one_uncalled : {A B : Type 0} (has : B → Bool) (tree : A → B) (all : List A) (k : ℕ) (x : A) → k < length all → x ≡ get_or all k x
    → list_any has (map tree all) ≡ false → has (tree x) ≡ false
one_uncalled has tree [] k x less is none = absurd (omega arith)
one_uncalled has tree (y ∷ all) zero x less is none = rw is (neither (has (tree y)) (list_any has (map tree all)) none).0
one_uncalled has tree (y ∷ all) (suc k) x less is none =
    one_uncalled has tree all k x (omega arith) is (neither (has (tree y)) (list_any has (map tree all)) none).1

-- those of a command of a line
args_uncalled : (at : ℕ) (commands : List Spaced) → list_any has_call_spaced (map spaced_tree commands) ≡ false
    → list_any has_call_arg (map arg_tree (args_of (slice_get commands at))) ≡ false
args_uncalled at [] none = refl
args_uncalled zero (x ∷ commands) none =
    let one = (neither (has_call_spaced (spaced_tree x)) (list_any has_call_spaced (map spaced_tree commands)) none).0 in
    (neither (has_call_optional (command_tree x.command).condition) (list_any has_call_arg (command_tree x.command).args) one).1
args_uncalled (suc at) (x ∷ commands) none =
    args_uncalled at commands (neither (has_call_spaced (spaced_tree x)) (list_any has_call_spaced (map spaced_tree commands)) none).1

pub before_uncalled : (l : Line) (at : ℕ) → has_call_line (line_tree l) ≡ false → list_any has_call_arg (map arg_tree (args_before l at)) ≡ false
before_uncalled l at none = args_uncalled (at - 1) l.commands.items none

pub source_uncalled : (s : Source) → source_since s ≡ 0 → list_any has_call_arg (map arg_tree (source_args s)) ≡ false
source_uncalled (source.Line behind) none = before_uncalled behind.now.line.value behind.now.at (played_plain behind.now.line.value behind.now.played none)
source_uncalled (source.Text given) none =
    profile_args_have_no_call (map arg_tree given.now.value.args.items) (let counted = given.now.value.played.0 in omega (arith, counted, none))

-- the parameters of a FOR have none either, and each call in them stands where steps are
loop_uncalled : (args : List Arg) (index : Text) (parameters : List Parameter) → loop_in args ≡ (index, parameters)
    → list_any has_call_arg (map arg_tree args) ≡ false → list_any has_call_parameter (map parameter_tree parameters) ≡ false
loop_uncalled (arg.Loop i ps ∷ more) index parameters e none =
    let one = (neither (list_any has_call_parameter (map parameter_tree ps.items)) (list_any has_call_arg (map arg_tree more)) none).0 in
    subst (λ xs. list_any has_call_parameter (map parameter_tree xs) ≡ false) (ap (λ (x : Text × List Parameter). x.1) e) one
loop_uncalled args index parameters e none =
    subst (λ xs. list_any has_call_parameter (map parameter_tree xs) ≡ false) (ap (λ (x : Text × List Parameter). x.1) e) (grind arith)

loop_stepped : (args : List Arg) (index : Text) (parameters : List Parameter) → loop_in args ≡ (index, parameters)
    → list_all in_steps_arg (map arg_tree args) ≡ true → list_all in_steps_parameter (map parameter_tree parameters) ≡ true
loop_stepped (arg.Loop i ps ∷ more) index parameters e steps =
    let one = (each_of (list_all in_steps_parameter (map parameter_tree ps.items)) (list_all in_steps_arg (map arg_tree more)) steps).0 in
    subst (λ xs. list_all in_steps_parameter (map parameter_tree xs) ≡ true) (ap (λ (x : Text × List Parameter). x.1) e) one
loop_stepped args index parameters e steps =
    subst (λ xs. list_all in_steps_parameter (map parameter_tree xs) ≡ true) (ap (λ (x : Text × List Parameter). x.1) e) (grind arith)

module _ (body : Continuation) (index : Text) (parameters : List Parameter) (found : loop_before body.line.value body.at ≡ (index, parameters))
    (k : ℕ) (q : Parameter) (less : k < length parameters) (is : q ≡ get_or parameters k q) where
  pub parameter_uncalled : body.line.value.since ≡ 0 → has_call_parameter (parameter_tree q) ≡ false
  parameter_uncalled none =
      one_uncalled has_call_parameter parameter_tree parameters k q less is
      (loop_uncalled (args_before body.line.value body.at) index parameters found
      (before_uncalled body.line.value body.at (played_plain body.line.value body.played none)))

  pub parameter_stepped : in_steps_parameter (parameter_tree q) ≡ true
  parameter_stepped =
      one_stepped in_steps_parameter parameter_tree parameters k q less is
      (loop_stepped (args_before body.line.value body.at) index parameters found (before_stepped body.line.value body.at body.played))

-- those after an argument go on
abbrev pub arguments_behind : Position → List ArgTree → Text → ℕ → Progress Entrance → Act (Progress Entrance × List ArgTree)
arguments_behind p more a n st = behind st more (args_started (context a n p) more)

-- before what no program leads to no step is spent, and before a program one is
pub plain_ahead : (new old : ℕ) (r : Result (the_progress.Progress entrances.Entrance) Code) → new ≤ old → IfOk r (λ p. IfStops p (IsReady [] 0))
    → IfOk r (λ p. IfStops p (λ e. new + ahead e ≤ old))
plain_ahead new old (Ok (progress.Over s)) few ready = tt
plain_ahead new old (Ok (progress.Stops (entrance.Lines c))) few ready = omega (arith, few)
plain_ahead new old (Ok (progress.Stops (entrance.Text e))) few ready = omega (arith, few)
plain_ahead new old (Ok (progress.Stops (entrance.Indirect k p))) few ready = omega (arith, few)
plain_ahead new old (Ok (progress.Stops (entrance.Paused r))) few ready = absurd (let clash : ◌≡◌ {A = Option Arg} None (Some r.value.arg.now) = ready in cc)
plain_ahead new old (Err c) few ready = tt

pub most_ahead : (e : entrances.Entrance) → ahead e ≤ 1
most_ahead (entrance.Lines c) = omega arith
most_ahead (entrance.Text e) = omega arith
most_ahead (entrance.Indirect k p) = omega arith
most_ahead (entrance.Paused r) = omega arith

pub spent_ahead : (new old : ℕ) (r : Result (the_progress.Progress entrances.Entrance) Code) → IfOk r (λ p. IfStops p (λ _. new < old))
    → IfOk r (λ p. IfStops p (λ e. new + ahead e ≤ old))
spent_ahead new old (Ok (progress.Over s)) less = tt
spent_ahead new old (Ok (progress.Stops e)) less = let most = most_ahead e in omega (arith, less, most)
spent_ahead new old (Err c) less = tt

-- that number of texts may be entered there
pub enters_fits : (e : entrances.Entrance) (m s n : ℕ) → m + ahead e ≤ s → s < n → Enters e m n
enters_fits (entrance.Lines c) m s n few less = omega (arith, few, less)
enters_fits (entrance.Text t) m s n few less = omega (arith, few, less)
enters_fits (entrance.Indirect k p) m s n few less = omega (arith, few, less)
enters_fits (entrance.Paused r) m s n few less = omega (arith, few, less)

pub enters_sound : (e : entrances.Entrance) (s n : ℕ) → Enters e s n → s < n
enters_sound (entrance.Lines c) s n h = h
enters_sound (entrance.Text t) s n h = h
enters_sound (entrance.Indirect k p) s n h = h
enters_sound (entrance.Paused r) s n h = omega (arith, h)

-- a program that has not come to its end
pub pause_stops : (k : Ending) (w : WholeTree) (r : the_pause.Pause) → ((s : completions.Completion) → r ≡ pause.Over s → ⊥)
    → progress_at k (pause_of w r) ≡ stops (into_pause k (pause_of w r))
pause_stops k w (pause.Over s) h = absurd (h s refl)
pause_stops k w r h = refl

-- ---- calls

module _ {S : Type 0} {g : Ghosts S} where
  -- what gives its completion
  pub gives_over : {T U : Type 0} (view : T → U) {p : Text → ℕ → Act meaning.Completion} {old new : Parts S} (r : Result Completion Code)
      → DoesAt g p completion_of old r new → DoesAt g (λ a n. p a n >>= (λ s. give (over s))) (progress_of view) old (ends r) new
  gives_over view (Ok s) d = at_then (λ a n s. give (over s)) d (at_gives (over (completion_of s)) (progress_of view) (progress.Over s) refl)
  gives_over view (Err c) d = at_failed (λ a n s. give (over s)) d

  pub enters_where : (p : Position) (c : Option ExprTree) (e : entrances.Entrance) {old new : Parts S} (r : Result Bool Code)
      → DoesAt g (λ a n. holds (inside a n p.depth) c) (λ (b : Bool). b) old r new
      → DoesAt g (λ a n. holds (inside a n p.depth) c >>= (λ holds. give (cond holds (stops (entrance_of e)) (over Go_on)))) start_of old
      (where_applies r e) new
  enters_where p c e (Ok true) d =
      at_then (λ a n holds. give (cond holds (stops (entrance_of e)) (over Go_on))) d (at_gives (stops (entrance_of e)) start_of (progress.Stops e) refl)
  enters_where p c e (Ok false) d =
      at_then (λ a n holds. give (cond holds (stops (entrance_of e)) (over Go_on))) d (at_gives (over Go_on) start_of (progress.Over completion.GoOn) refl)
  enters_where p c e (Err f) d = at_failed (λ a n holds. give (cond holds (stops (entrance_of e)) (over Go_on))) d

  -- in a line's context, of a condition that calls no function
  pub entered_where : (p : positions.Position) (c : Option ExprTree) → has_call_optional c ≡ false
      → (e : entrances.Entrance) {old new : Parts S} (r : Result Bool Code)
      → Does g (λ i. holds i c) (λ (b : Bool). b) (record old { eval = record old.eval { depth = p.depth } }) r new
      → DoesAt g (λ a n. holds (inside_of (context a n (position_of p))) c >>= (λ holds. give (cond holds (stops (entrance_of e)) (over Go_on)))) start_of old
      (where_applies r e) new
  entered_where p c quiet e r d =
      at_as (λ a n. λ i. holds_here (position_of p) c quiet a n i >>= (λ holds. give (cond holds (stops (entrance_of e)) (over Go_on))))
      (enters_where (position_of p) c e r (at_done p.depth d))

  -- arguments, one after another, where one text more may be entered than there are steps
  module _ (p : Position) (all : List Arg) (k : ℕ) (x : Arg) (less : k < length all) (is : x ≡ get_or all k x) where
    from_argument : {old new : Parts S} {r : Result (the_progress.Progress entrances.Entrance × ℕ) Code}
        → DoesAt g (λ a n. started (context a (suc n) p) (arg_tree x) >>= arguments_behind p (map arg_tree (drop (k + 1) all)) a (suc n))
        (begun_of all) old r new
        → DoesAt g (λ a n. args_started (context a (suc n) p) (map arg_tree (drop k all))) (begun_of all) old r new
    from_argument {old = old} {new = new} {r = r} does =
        subst (λ (xs : List Arg). DoesAt g (λ a n. args_started (context a (suc n) p) (map arg_tree xs)) (begun_of all) old r new)
        (sym (next_item all k x less is)) does

    -- an argument is begun, and then they do
    pub argument_begins : {o : the_progress.Progress entrances.Entrance} {old mid new : Parts S}
        {r : Result (the_progress.Progress entrances.Entrance × ℕ) Code}
        → DoesAt g (λ a n. started (context a (suc n) p) (arg_tree x)) start_of old (Ok o) mid
        → DoesAt g (λ a n. arguments_behind p (map arg_tree (drop (k + 1) all)) a (suc n) (start_of o)) (begun_of all) mid r new
        → DoesAt g (λ a n. args_started (context a (suc n) p) (map arg_tree (drop k all))) (begun_of all) old r new
    argument_begins does then_does = from_argument (at_then (λ a n. arguments_behind p (map arg_tree (drop (k + 1) all)) a (suc n)) does then_does)

    pub argument_stopped : {old new : Parts S} {r : Result (the_progress.Progress entrances.Entrance × ℕ) Code} {e : Code}
        → DoesAt g (λ a n. started (context a (suc n) p) (arg_tree x)) start_of old (Err e) new → IsErr r × IsErrAnd r (λ x. x ≡ e)
        → DoesAt g (λ a n. args_started (context a (suc n) p) (map arg_tree (drop k all))) (begun_of all) old r new
    argument_stopped does h = from_argument (at_stopped (λ a n. arguments_behind p (map arg_tree (drop (k + 1) all)) a (suc n)) does h)
