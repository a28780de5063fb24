-- SPDX-License-Identifier: Apache-2.0
-- Arguments, commands and lines up to where they stop, and then what is left of them, is what they do.
use Rattle.mexec.proofs.ExecWords.{slice_get, Option, ◌≡◌, ℕ, suc, ◌+◌, ◌-◌, ◌≤◌, ◌<◌, Bool, true, false, cond, List, [], ◌∷◌, None, Some, Result, Ok, Err, length}
use Rattle.mexec.proofs.ExecWords.{get_or, map, drop, refl, sym, ap, ◌∙◌, subst, arith, IsErr, IsErrAnd, IfOk, Text, Act, ◌>>=◌, ◌>>◌, give, charge, next_item}
use Rattle.mexec.proofs.ExecWords.{KeywordTree, for_word, do_word, ArgTree, loop, CommandTree, Context, Turning, Go_on, after, arguments, bare, commands}
use Rattle.mexec.proofs.ExecWords.{conditional, context, effect, holds, inside_of, View, assoc, ended, arg_tree, command_tree, spaced_tree, Arg, Line, Ghosts}
use Rattle.mexec.proofs.ExecWords.{Code, Parts, DoesAt, advanced, course_view, ForLoop, turning, position_of, rest_tree, finished, start_of, Runs}
use Rattle.mexec.proofs.ExecWords.{commands_from, completion_of, args_started, args_left, args_outcome, word_started, effect_started, command_started, finishes}
use Rattle.mexec.proofs.ExecWords.{front, line_left, begun_of, outcome_of, front_of, StopsIn, at_begun, stops_at, turn_ends, turn_left, Entrance, Progress}
use Rattle.mexec.proofs.ExecWords.{IfStops, behind, over, stops, Position, Turns, Completion, started, Stop, args_before}
use Rattle.std.proofs.lemmas.Option.{slice_get_read}
use Rattle.mmeaning.specs.LineMeaning as meaning
use Rattle.mtree.specs.declared.tree.Arg.TheVariants as arg
use Rattle.mtree.specs.declared.tree.Spaced.{Spaced}
use Rattle.mexec.specs.declared.completion.Completion.TheVariants as completion
use Rattle.mexec.specs.declared.arguments.Entrance as entrances
use Rattle.mexec.specs.declared.front.Stop as the_stop
use Rattle.mexec.specs.declared.completion.Progress as the_progress
use Rattle.mexec.specs.declared.completion.Progress.TheVariants as progress
use Rattle.std.specs.Prelude.{option_map}
use Rattle.mgrammar.specs.CallsIn.{has_call_optional}
use Rattle.mgrammar.specs.ProgramsIn.{in_steps_arg, in_steps_args, in_steps_optional}
use Rattle.std.specs.List.{list_all}
use Rattle.mexec.specs.Uncalled.{IsPlayed, in_steps_command}
use Rattle.mexec.proofs.PlayedTexts.{commands_stepped}
use Rattle.mmeaning.proofs.ProgramSteps.{each_of}
use Rattle.mtree.specs.declared.tree.Command.{Command}
use Rattle.mexec.specs.Arguments.{IsReady}
use Rattle.mexec.specs.Arguments.{ahead}
use Rattle.mexec.specs.Fronts.{StopFits, StopsAt, StopsBefore, at_condition, command_started_plainly, stop_ahead}
use Rattle.mexec.specs.Frames.{RunsIf}
use Rattle.mexec.proofs.ArgumentRuns.{enters_fits, enters_sound}
use Rattle.mexec.specs.Loops.{args_of}
use Rattle.mexec.specs.Frames.{command_in}
use Rattle.mexec.specs.declared.front.Stop.TheVariants as stop
use Rattle.mexec.proofs.ArgumentRuns.{argument_is}
use Rattle.mexec.proofs.Loops.{course_runs, turn_begins, turn_done}
use Rattle.mexec.proofs.Calls.{at_then, at_spent, one_more, at_failed, at_stopped, at_gives, at_as, runs_then, runs_stopped, runs_as, then_if, some_item}
use Rattle.mexec.specs.Frames.{RunsWithin}

-- ---- acts

module _ (b : Text) (n : ℕ) (p : Position) where
  abbrev x : Context
  x = context b n p

  behind_is : (st : Progress Entrance) (more : List ArgTree)
      → ◌≡◌ {A = Act meaning.Completion} (arguments x more) (args_started x more >>= (λ w. args_left x w.0 w.1))
      → ◌≡◌ {A = Act meaning.Completion} (finished x st >>= (λ s. after s (arguments x more))) (behind st more (args_started x more) >>= (λ w. args_left x w.0 w.1))
  behind_is (over Go_on) more e = e
  behind_is st more e = refl

  pub arguments_is : (args : List ArgTree) → in_steps_args args ≡ true
      → ◌≡◌ {A = Act meaning.Completion} (arguments x args) (args_started x args >>= (λ w. args_left x w.0 w.1))
  arguments_is [] h = refl
  arguments_is (a ∷ more) h =
      let both = each_of (in_steps_arg a) (in_steps_args more) h in
      ap (λ (q : Act meaning.Completion). q >>= (λ s. after s (arguments x more))) (argument_is b n p a both.0)
      ∙ assoc (started x a) (finished x) (λ s. after s (arguments x more))
      ∙ (λ i. started x a >>= (λ st. behind_is st more (arguments_is more both.1) i))
      ∙ sym (assoc (started x a) (λ st. behind st more (args_started x more)) (λ w. args_left x w.0 w.1))

  word_is : (k : KeywordTree) (rest : List CommandTree) → ◌≡◌ {A = Act meaning.Completion} (bare x k rest) (word_started x k >>= finishes x rest)
  word_is for_word rest = refl
  word_is do_word rest = refl
  word_is k rest = sym (assoc (bare x k []) (λ s. give (over s)) (finishes x rest) ∙ ended (bare x k []))

  args_end : (st : Progress Entrance) (more : List ArgTree) (rest : List CommandTree)
      → ◌≡◌ {A = Act meaning.Completion} (args_left x st more) (finishes x rest (args_outcome st more))
  args_end (over s) more rest = refl
  args_end (stops e) more rest = refl

  pub effect_is : (k : KeywordTree) (args : List ArgTree) (rest : List CommandTree) → in_steps_args args ≡ true
      → ◌≡◌ {A = Act meaning.Completion} (effect x k args rest) (effect_started x k args >>= finishes x rest)
  effect_is k [] rest h = word_is k rest
  effect_is k (loop index parameters ∷ more) rest h = refl
  effect_is k (a ∷ more) rest h =
      arguments_is (a ∷ more) h
      ∙ (λ i. args_started x (a ∷ more) >>= (λ w. args_end w.0 w.1 rest i))
      ∙ sym (assoc (args_started x (a ∷ more)) (λ w. give (args_outcome w.0 w.1)) (finishes x rest))

  plainly_is : (c : CommandTree) (rest : List CommandTree) → in_steps_args c.args ≡ true
      → ◌≡◌ {A = Act meaning.Completion} (conditional x c rest) (command_started_plainly x c >>= finishes x rest)
  plainly_is c rest h =
      sym (assoc (holds (inside_of x) c.condition) (λ b. cond b (effect_started x c.keyword c.args) (give (over Go_on))) (finishes x rest) ∙ (λ i. holds (inside_of x) c.condition >>= (λ b. either b i)))
    where
      either : (b : Bool)
          → ◌≡◌ {A = Act meaning.Completion} (cond b (effect_started x c.keyword c.args) (give (over Go_on)) >>= finishes x rest) (cond b (effect x c.keyword c.args rest) (give Go_on))
      either true = sym (effect_is c.keyword c.args rest h)
      either false = refl

  conditional_is : (c : CommandTree) (rest : List CommandTree) → in_steps_args c.args ≡ true
      → ◌≡◌ {A = Act meaning.Completion} (conditional x c rest) (command_started x c >>= finishes x rest)
  conditional_is c rest h = either (has_call_optional c.condition)
    where
      either : (b : Bool)
          → ◌≡◌ {A = Act meaning.Completion} (conditional x c rest) (cond b (give (stops (at_condition c))) (command_started_plainly x c) >>= finishes x rest)
      either true = refl
      either false = plainly_is c rest h

  behind_command_is : (o : Progress Stop) (rest : List CommandTree)
      → ◌≡◌ {A = Act meaning.Completion} (commands x rest) (front x rest >>= (λ w. line_left x w.0 w.1))
      → ◌≡◌ {A = Act meaning.Completion} (finishes x rest o >>= (λ s. after s (commands x rest))) (behind o rest (front x rest) >>= (λ w. line_left x w.0 w.1))
  behind_command_is (over Go_on) rest e = e
  behind_command_is o rest e = refl

  pub commands_is : (cs : List CommandTree) → list_all in_steps_command cs ≡ true
      → ◌≡◌ {A = Act meaning.Completion} (commands x cs) (front x cs >>= (λ w. line_left x w.0 w.1))
  commands_is [] h = refl
  commands_is (c ∷ rest) h =
      let both = each_of (in_steps_command c) (list_all in_steps_command rest) h in
      let args = (each_of (in_steps_optional c.condition) (in_steps_args c.args) both.0).1 in
      (λ i. charge >> (conditional_is c rest args i >>= (λ s. after s (commands x rest))))
      ∙ (λ i. charge >> assoc (command_started x c) (finishes x rest) (λ s. after s (commands x rest)) i)
      ∙ (λ i. charge >> (command_started x c >>= (λ o. behind_command_is o rest (commands_is rest both.1) i)))
      ∙ (λ i. charge >> sym (assoc (command_started x c) (λ o. behind o rest (front x rest)) (λ w. line_left x w.0 w.1)) i)
      ∙ sym (assoc charge (λ _. command_started x c >>= (λ o. behind o rest (front x rest))) (λ w. line_left x w.0 w.1))

-- a command whose first argument is not that of a FOR
pub other_started : (x : Context) (k : KeywordTree) (a : Arg) (more : List ArgTree) → ((index : _) (ps : _) → a ≡ arg.Loop index ps → ⊥)
    → ◌≡◌ {A = Act (Progress Stop)} (effect_started x k (arg_tree a ∷ more)) (args_started x (arg_tree a ∷ more) >>= (λ w. give (args_outcome w.0 w.1)))
other_started x k (arg.Loop index ps) more h = absurd (h index ps refl)
other_started x k a more h = refl

-- a completion that passes what is next
pub passes_next : {T A : Type 0} (s : Completion) (more : List A) (next : Act (Progress T × List A)) → (s ≡ completion.GoOn → ⊥)
    → ◌≡◌ {A = Act (Progress T × List A)} (behind (over (completion_of s)) more next) (give (over (completion_of s), more))
passes_next completion.GoOn more next h = absurd (h refl)
passes_next s more next h = refl

-- what follows a turn
pub after_turn_is : (x : Context) (t : Turning) (s : meaning.Completion)
    → ◌≡◌ {A = Act meaning.Completion} (meaning.after_turn x t s) (turn_ends s >>= turn_left x t)
after_turn_is x t Go_on = refl
after_turn_is x t s = refl

-- ---- stops

-- what stands at a place is read
pub item_there : {A : Type 0} (xs : List A) (k : ℕ) (x : A) → k < length xs → x ≡ get_or xs k x → slice_get xs ((k + 1) - 1) ≡ Some x
item_there xs k x less is = let at : (k + 1) - 1 ≡ k = omega arith in rw (at, slice_get_read xs (length xs) k x refl less is) refl

-- the arguments before a place are those of the command there
pub args_there : (l : Line) (k : ℕ) (x : Spaced) → k < length l.commands.items → x ≡ get_or l.commands.items k x → args_before l (k + 1) ≡ x.command.args.items
args_there l k x less is = ap args_of (item_there l.commands.items k x less is)

pub begun_stops : (args : List Arg) (r : Result (the_progress.Progress entrances.Entrance × ℕ) Code) → IfOk r (λ begun. IfStops begun.0 (IsReady args begun.1))
    → IfOk (stops_at r) (λ o. IfStops o (StopsIn args))
begun_stops args (Ok (progress.Over s, at)) quiet = tt
begun_stops args (Ok (progress.Stops e, at)) quiet = quiet
begun_stops args (Err c) quiet = tt

pub begun_ahead : (new old : ℕ) (r : Result (the_progress.Progress entrances.Entrance × ℕ) Code) → IfOk r (λ begun. IfStops begun.0 (λ e. new + ahead e ≤ old))
    → IfOk (stops_at r) (λ o. IfStops o (λ st. new + stop_ahead st ≤ old))
begun_ahead new old (Ok (progress.Over s, at)) few = tt
begun_ahead new old (Ok (progress.Stops e, at)) few = few
begun_ahead new old (Err c) few = tt

-- before what needs no program no step is spent
pub bare_ahead : (new old : ℕ) (r : Result (the_progress.Progress the_stop.Stop) Code) → new ≤ old → IfOk r (λ o. IfStops o (λ st. stop_ahead st ≡ 0))
    → IfOk r (λ o. IfStops o (λ st. new + stop_ahead st ≤ old))
bare_ahead new old (Ok (progress.Over s)) few none = tt
bare_ahead new old (Ok (progress.Stops st)) few none = omega (arith, few, none)
bare_ahead new old (Err e) few none = tt

-- and from an earlier point on
pub ahead_before : (new mid old : ℕ) (r : Result (the_progress.Progress the_stop.Stop) Code) → mid ≤ old → IfOk r (λ o. IfStops o (λ st. new + stop_ahead st ≤ mid))
    → IfOk r (λ o. IfStops o (λ st. new + stop_ahead st ≤ old))
ahead_before new mid old (Ok (progress.Over s)) few less = tt
ahead_before new mid old (Ok (progress.Stops st)) few less = omega (arith, few, less)
ahead_before new mid old (Err e) few less = tt

-- how many texts may be entered where a command stops
pub stop_fits : (st : the_stop.Stop) (m s n : ℕ) → m + stop_ahead st ≤ s → s < n → StopFits st m n
stop_fits (stop.Argument e at) m s n few less = enters_fits e m s n few less
stop_fits (stop.Loop index ps) m s n few less = omega (arith, few, less)
stop_fits stop.Turns m s n few less = omega (arith, few, less)
stop_fits stop.Block m s n few less = omega (arith, few, less)
stop_fits (stop.Condition c) m s n few less = omega (arith, few, less)

pub stop_sound : (st : the_stop.Stop) (s n : ℕ) → StopFits st s n → s < n
stop_sound (stop.Argument e at) s n h = enters_sound e s n h
stop_sound (stop.Loop index ps) s n h = h
stop_sound stop.Turns s n h = h
stop_sound stop.Block s n h = h
stop_sound (stop.Condition c) s n h = h

-- what stops within a command stops at it, though not at its condition
pub in_command : (c : Command) (st : the_stop.Stop) → StopsIn c.args.items st → StopsAt c st
in_command c (stop.Condition d) h = absurd h
in_command c st h = h

pub effect_stops : (c : Command) (r : Result (the_progress.Progress the_stop.Stop) Code) → IfOk r (λ o. IfStops o (StopsIn c.args.items))
    → IfOk r (λ o. IfStops o (StopsAt c))
effect_stops c (Ok (progress.Over s)) h = tt
effect_stops c (Ok (progress.Stops st)) h = in_command c st h
effect_stops c (Err e) h = tt

-- what a stop says, by what it is
pub argument_before : (o : Option Spaced) (e : entrances.Entrance) (at : ℕ) → StopsBefore o (stop.Argument e at) → IsReady (args_of o) at e
argument_before None e at h = absurd h
argument_before (Some s) e at h = h

pub loop_stop : (o : Option Spaced) (index : _) (parameters : _) → StopsBefore o (stop.Loop index parameters) → StopsIn (args_of o) (stop.Loop index parameters)
loop_stop None index parameters h = absurd h
loop_stop (Some s) index parameters h = h

pub turns_stop : (o : Option Spaced) → StopsBefore o stop.Turns → args_of o ≡ []
turns_stop None h = absurd h
turns_stop (Some s) h = h

pub condition_stop : (o : Option Spaced) (d : _) → StopsBefore o (stop.Condition d)
    → (command_in o ≡ command_tree d.now) × (has_call_optional (command_in o).condition ≡ true) × (in_steps_optional (command_in o).condition ≡ true)
condition_stop None d h = absurd h
condition_stop (Some s) d h = (ap command_tree (sym h.0), h.1, h.2)

-- the command before a place
pub command_there : (o : Option Spaced) (c : Command) → option_map (λ (s : Spaced). s.command) o ≡ Some c
    → (command_in o ≡ command_tree c) × (args_of o ≡ c.args.items) × ((st : the_stop.Stop) → StopsIn c.args.items st → StopsBefore o st)
command_there None c h = absurd (let clash : ◌≡◌ {A = Option Command} None (Some c) = h in cc)
command_there (Some s) c h =
    let same : s.command ≡ c = cc in
    (ap command_tree same, ap (λ (d : Command). d.args.items) same, λ st at. subst (λ d. StopsAt d st) (sym same) (in_command c st at))

begun_is : (args : List Arg) (b : the_progress.Progress entrances.Entrance) (at : ℕ)
    → outcome_of args (at_begun b at) ≡ args_outcome (start_of b) (map arg_tree (drop at args))
begun_is args (progress.Over s) at = refl
begun_is args (progress.Stops e) at = refl

-- those after a command go on
abbrev pub commands_behind : Position → List CommandTree → Text → ℕ → Progress Stop → Act (Progress Stop × List CommandTree)
commands_behind p rest a n o = behind o rest (front (context a n p) rest)

-- ---- calls

module _ {S : Type 0} {g : Ghosts S} where
  -- arguments that have begun
  pub gives_stop : {p : Text → ℕ → Act (Progress Entrance × List ArgTree)} {old new : Parts S} (args : List Arg) (r : Result (the_progress.Progress entrances.Entrance × ℕ) Code)
      → DoesAt g p (begun_of args) old r new
      → DoesAt g (λ a n. p a n >>= (λ w. give (args_outcome w.0 w.1))) (outcome_of args) old (stops_at r) new
  gives_stop args (Ok (b, at)) d =
      at_then (λ a n w. give (args_outcome w.0 w.1)) d
      (at_gives (args_outcome (start_of b) (map arg_tree (drop at args))) (outcome_of args) (at_begun b at) (begun_is args b at))
  gives_stop args (Err c) d = at_failed (λ a n w. give (args_outcome w.0 w.1)) d

module _ {S : Type 0} {g : Ghosts S} (p : Position) (l : Line) (k : ℕ) (x : Spaced) (less : k < length l.commands.items) (is : x ≡ get_or l.commands.items k x) where
  from_command : {old new : Parts S} {r : Result (the_progress.Progress the_stop.Stop × ℕ) Code}
      → DoesAt g (λ a n. charge >> (command_started (context a n p) (command_tree x.command) >>= commands_behind p (commands_from l (k + 1)) a n)) (front_of l) old r new
      → DoesAt g (λ a n. front (context a n p) (commands_from l k)) (front_of l) old r new
  from_command {old = old} {new = new} {r = r} does =
      subst (λ (xs : List Spaced). DoesAt g (λ a n. front (context a n p) (map (λ c. c.0) (map spaced_tree xs))) (front_of l) old r new)
      (sym (next_item l.commands.items k x less is)) does

  -- a command is done up to where it stops, its step spent, and then they do
  pub command_begins : {X : Type 0} {f : X → Unit {0}} {u : X} {o : the_progress.Progress the_stop.Stop} {old mid next new : Parts S} {r : Result (the_progress.Progress the_stop.Stop × ℕ) Code}
      → DoesAt g (λ a n. charge) f old (Ok u) mid → mid.eval.steps < old.eval.steps
      → DoesAt g (λ a n. command_started (context a (suc n) p) (command_tree x.command)) (outcome_of x.command.args.items) mid (Ok o) next → DoesAt g (λ a n. commands_behind p (commands_from l (k + 1)) a n (outcome_of x.command.args.items o)) (front_of l) next r new
      → DoesAt g (λ a n. front (context a n p) (commands_from l k)) (front_of l) old r new
  command_begins {o = o} c less does then_does =
      from_command
      (at_spent (λ a n _. command_started (context a n p) (command_tree x.command) >>= commands_behind p (commands_from l (k + 1)) a n) c less
      (at_then (λ a n. commands_behind p (commands_from l (k + 1)) a (suc n)) does
      (one_more (λ a n. commands_behind p (commands_from l (k + 1)) a n (outcome_of x.command.args.items o)) then_does)))

  pub command_stopped : {X : Type 0} {f : X → Unit {0}} {u : X} {old mid new : Parts S} {r : Result (the_progress.Progress the_stop.Stop × ℕ) Code} {e : Code}
      → DoesAt g (λ a n. charge) f old (Ok u) mid → mid.eval.steps < old.eval.steps
      → DoesAt g (λ a n. command_started (context a (suc n) p) (command_tree x.command)) (outcome_of x.command.args.items) mid (Err e) new → IsErr r × IsErrAnd r (λ x. x ≡ e)
      → DoesAt g (λ a n. front (context a n p) (commands_from l k)) (front_of l) old r new
  command_stopped c less does h =
      from_command
      (at_spent (λ a n _. command_started (context a n p) (command_tree x.command) >>= commands_behind p (commands_from l (k + 1)) a n) c less
      (at_stopped (λ a n. commands_behind p (commands_from l (k + 1)) a (suc n)) does h))

-- no step is left for the next command
pub charge_stopped : {S X : Type 0} {g : Ghosts S} (p : Position) (l : Line) (k : ℕ) {f : X → Unit {0}} {old new : Parts S} {r : Result (the_progress.Progress the_stop.Stop × ℕ) Code} {e : Code}
    → k < length l.commands.items → DoesAt g (λ a n. charge) f old (Err e) new → IsErr r × IsErrAnd r (λ x. x ≡ e)
    → DoesAt g (λ a n. front (context a n p) (commands_from l k)) (front_of l) old r new
charge_stopped {g = g} p l k {old = old} {new = new} {r = r} less c h =
    let some = some_item k l.commands.items less in
    subst (λ (xs : List Spaced). DoesAt g (λ a n. front (context a n p) (map (λ c. c.0) (map spaced_tree xs))) (front_of l) old r new) (sym some.1)
    (at_stopped (λ a n _. command_started (context a n p) (command_tree some.0.command) >>= (λ o. behind o (commands_from l (k + 1)) (front (context a n p) (commands_from l (k + 1))))) c h)

module _ {S : Type 0} {g : Ghosts S} (p : Position) (l : Line) (played : IsPlayed l) where
  -- a line up to where it stops, and then what is left of it
  pub front_runs : (from : ℕ) {at : ℕ} {o : the_progress.Progress the_stop.Stop} {fs fs' : List View} {old mid new : Parts S} {r : Result Completion Code}
      → DoesAt g (λ a n. front (context a n p) (commands_from l from)) (front_of l) old (Ok (o, at)) mid
      → Runs g (λ a n. line_left (context a n p) (front_of l (o, at)).0 (commands_from l at)) fs mid r fs' new
      → Runs g (λ a n. commands (context a n p) (commands_from l from)) fs old r fs' new
  front_runs from does k =
      runs_as (λ a n. commands_is a n p (commands_from l from) (commands_stepped l from played)) (runs_then (λ a n w. line_left (context a n p) w.0 w.1) does k)

  -- one that stops within a command, whose step is spent
  pub front_stops : (from : ℕ) {at : ℕ} (st : the_stop.Stop) {fs fs' : List View} {old mid new : Parts S} {r : Result Completion Code}
      → DoesAt g (λ a n. front (context a n p) (commands_from l from)) (front_of l) old (Ok (progress.Stops st, at)) mid
      → mid.eval.steps + stop_ahead st < old.eval.steps
      → RunsIf (StopFits st) g (λ a n. line_left (context a n p) (front_of l (progress.Stops st, at)).0 (commands_from l at)) fs mid r fs' new
      → Runs g (λ a n. commands (context a n p) (commands_from l from)) fs old r fs' new
  front_stops from {at = at} st {old = old} {mid = mid} does less k =
      runs_as (λ a n. commands_is a n p (commands_from l from) (commands_stepped l from played))
      (then_if {more = StopFits st} (λ a n w. line_left (context a n p) w.0 w.1) (λ s n h. h) does
      (λ n le. stop_fits st mid.eval.steps (mid.eval.steps + stop_ahead st) n (omega arith) (omega (arith, less, le))) k)

  pub front_stopped : (from : ℕ) {fs fs' : List View} {old new : Parts S} {r : Result Completion Code} {e : Code}
      → DoesAt g (λ a n. front (context a n p) (commands_from l from)) (front_of l) old (Err e) new
      → IsErr r × IsErrAnd r (λ x. x ≡ e) → Runs g (λ a n. commands (context a n p) (commands_from l from)) fs old r fs' new
  front_stopped from does h =
      runs_as (λ a n. commands_is a n p (commands_from l from) (commands_stepped l from played)) (runs_stopped (λ a n w. line_left (context a n p) w.0 w.1) does h)

  -- a line that is over
  pub front_over : (from : ℕ) {at : ℕ} {s : Completion} {old mid : Parts S}
      → DoesAt g (λ a n. front (context a n p) (commands_from l from)) (front_of l) old (Ok (progress.Over s, at)) mid
      → DoesAt g (λ a n. commands (context a n p) (commands_from l from)) completion_of old (Ok s) mid
  front_over from {s = s} does =
      at_as (λ a n. commands_is a n p (commands_from l from) (commands_stepped l from played)) (at_then (λ a n w. line_left (context a n p) w.0 w.1) does (at_gives (completion_of s) completion_of s refl))

-- ---- one more turn of a FOR

module _ {S X : Type 0} {g : Ghosts S} {f : X → Unit {0}} {u : X} {fs fs' : List View} (t : ForLoop) {old mid next : Parts S} (gone : DoesAt g (λ a n. advanced (turning t).index (course_view t.course)) (λ (b : Bool). b) old (Ok true) mid)
    (c : DoesAt g (λ a n. charge) f mid (Ok u) next) (less : next.eval.steps < mid.eval.steps) where
  -- its body up to where it stops, and then what is left of that
  pub turn_stops : {at : ℕ} (st : the_stop.Stop) {last new : Parts S} {r : Result Completion Code}
      → DoesAt g (λ a n. front (context a n (position_of t.body.position.value)) (rest_tree t.body)) (front_of t.body.line.value) next (Ok (progress.Stops st, at)) last
      → last.eval.steps + stop_ahead st < next.eval.steps
      → RunsIf (StopFits st) g (λ a n. line_left (context a n (position_of t.body.position.value)) (front_of t.body.line.value (progress.Stops st, at)).0 (commands_from t.body.line.value at)) (Turns (position_of t.body.position.value) (turning t) ∷ fs) last r fs' new
      → RunsWithin g (λ a n. meaning.after_course (context a n (position_of t.body.position.value)) (turning t) (course_view t.course)) fs old r fs' new
  turn_stops st does within k =
      course_runs t gone
      (turn_begins (position_of t.body.position.value) (turning t) c less (front_stops (position_of t.body.position.value) t.body.line.value t.body.played t.body.at st does within k))

  pub turn_stopped : {new : Parts S} {r : Result Completion Code} {e : Code}
      → DoesAt g (λ a n. front (context a n (position_of t.body.position.value)) (rest_tree t.body)) (front_of t.body.line.value) next (Err e) new
      → IsErr r × IsErrAnd r (λ x. x ≡ e)
      → RunsWithin g (λ a n. meaning.after_course (context a n (position_of t.body.position.value)) (turning t) (course_view t.course)) fs old r fs' new
  turn_stopped does h =
      course_runs t gone
      (turn_begins (position_of t.body.position.value) (turning t) c less (front_stopped (position_of t.body.position.value) t.body.line.value t.body.played t.body.at does h))

  -- one that is over
  pub turn_over : {at : ℕ} {s : Completion} {last new : Parts S} {r : Result Completion Code}
      → DoesAt g (λ a n. front (context a n (position_of t.body.position.value)) (rest_tree t.body)) (front_of t.body.line.value) next (Ok (progress.Over s, at)) last
      → RunsWithin g (λ a n. meaning.after_turn (context a n (position_of t.body.position.value)) (turning t) (completion_of s)) fs last r fs' new → RunsWithin g (λ a n. meaning.after_course (context a n (position_of t.body.position.value)) (turning t) (course_view t.course)) fs old r fs' new
  turn_over does k =
      course_runs t gone
      (turn_done (position_of t.body.position.value) (turning t) c less (front_over (position_of t.body.position.value) t.body.line.value t.body.played t.body.at does) k)
