-- SPDX-License-Identifier: Apache-2.0
-- An argument of a command, as the code does it: up to where it enters lines or a text, or a text gives arguments, and then that.
use Rattle.std.specs.Prelude.{◌≡◌, ◌<◌, ℕ, suc, ◌-◌, cond, List, [], ◌∷◌, slice_get, Some, Result, Ok, Err, Bool, true, false}
use Rattle.mspec.specs.Act.{Act, ◌>>=◌, give}
use Rattle.mgrammar.specs.Grammar.{ExprTree, EntryTree, ActualsTree, PrimaryTree, FormTree, ArgTree, do_one, executed, indirect_args}
use Rattle.mgrammar.specs.CallsIn.{has_call, has_call_actuals, has_call_arg, has_call_primary}
use Rattle.mgrammar.specs.Commands.{form_of}
use Rattle.mmeaning.specs.LineMeaning as meaning
use Rattle.mmeaning.specs.LineMeaning.{Position, Go_on, Context, inside_of, holds, after, argument, arguments, doing, executing}
use Rattle.mmeaning.specs.Frames.{View, Lists, resumed}
use Rattle.mmeaning.specs.Programs as programs
use Rattle.mmeaning.specs.Programs.{Ending, Pause, begun}
use Rattle.mprogram.specs.Wholes.{of_argument, steps_of, ending_of}
use Rattle.mexec.specs.Programs.{pause_of}
use Rattle.mtree.specs.Tree.{arg_tree, called_tree, expr_tree, keyword_tree, primary_tree}
use Rattle.mtree.specs.declared.tree.Arg.{Arg}
use Rattle.moperator.specs.declared.code.Code.{Code}
use Rattle.mexec.specs.declared.arguments.Entrance as entrances
use Rattle.mexec.specs.declared.arguments.Entrance.TheVariants as entrance
use Rattle.mexec.specs.declared.completion.Progress as the_progress
use Rattle.mexec.specs.declared.completion.Progress.TheVariants as progress
use Rattle.mexec.specs.declared.completion.Completion.TheVariants as completion
use Rattle.mexec.specs.Progress.{Progress, over, stops, progress_of}

-- what an argument enters: the lines from the one that is called on; a text; arguments of a form that the value of an operand gives; or its
-- own program, in which functions are called
pub data Entrance : Type 0 where
  into_lines : EntryTree × ActualsTree → Entrance
  into_text : ExprTree → Entrance
  into_given : FormTree → PrimaryTree → Entrance
  into_pause : Ending → Pause → Entrance

-- up to where an argument without a call enters something
abbrev pub started_plainly : Context → ArgTree → Act (Progress Entrance)
started_plainly x (do_one e xs c) = holds (inside_of x) c >>= (λ b. give (cond b (stops (into_lines (e, xs))) (over Go_on)))
started_plainly x (executed e c) = holds (inside_of x) c >>= (λ b. give (cond b (stops (into_text e)) (over Go_on)))
started_plainly x (indirect_args f p) = give (stops (into_given f p))
started_plainly x a = argument x a >>= (λ s. give (over s))

-- how far a program has come
abbrev pub progress_at : Ending → Pause → Progress Entrance
progress_at k (programs.over s) = over s
progress_at k r = stops (into_pause k r)

-- one with a call does its program up to where that opens a level
abbrev pub program_started : Context → ArgTree → Act (Progress Entrance)
program_started x a =
    begun x x.position.depth (steps_of (of_argument a)) (ending_of (of_argument a)) [] >>= (λ r. give (progress_at (ending_of (of_argument a)) r))

abbrev pub started : Context → ArgTree → Act (Progress Entrance)
started x a = cond (has_call_arg a) (program_started x a) (started_plainly x a)

-- what that does
abbrev pub entered : Context → Entrance → Act meaning.Completion
entered x (into_lines c) = doing x c.0 c.1
entered x (into_text e) = executing x e
entered x (into_given f p) = meaning.given x f p
entered x (into_pause k r) = resumed x.account x.fuel x.position k r

abbrev pub finished : Context → Progress Entrance → Act meaning.Completion
finished x (over s) = give s
finished x (stops e) = entered x e

-- and then the arguments after it
abbrev pub entered_then : Context → Entrance → List ArgTree → Act meaning.Completion
entered_then x e rest = entered x e >>= (λ s. after s (arguments x rest))

-- the same for the program
abbrev pub entrance_of : entrances.Entrance → Entrance
entrance_of (entrance.Lines c) = into_lines (called_tree c.now)
entrance_of (entrance.Text e) = into_text (expr_tree e.now)
entrance_of (entrance.Indirect k p) = into_given (form_of (keyword_tree k)) (primary_tree p.now)
entrance_of (entrance.Paused r) =
    into_pause (ending_of (of_argument (arg_tree r.value.arg.now))) (pause_of (of_argument (arg_tree r.value.arg.now)) r.value.pause)

-- what is entered before the arguments from one on: no function is called in it, or it is the program of the argument before them
abbrev pub IsReady : List Arg → ℕ → entrances.Entrance → Type 0
IsReady args at (entrance.Lines c) = has_call_actuals (called_tree c.now).1 ≡ false
IsReady args at (entrance.Text e) = has_call (expr_tree e.now) ≡ false
IsReady args at (entrance.Indirect k p) = has_call_primary (primary_tree p.now) ≡ false
IsReady args at (entrance.Paused r) = slice_get args (at - 1) ≡ Some r.value.arg.now

-- how many steps are spent before something is entered: an argument's own program spends one before its first call, or before what passes
-- that by
abbrev pub ahead : entrances.Entrance → ℕ
ahead (entrance.Paused r) = 1
ahead e = 0

-- so it may enter one text more than others within a command
abbrev pub Enters : entrances.Entrance → (steps n : ℕ) → Type 0
Enters (entrance.Paused r) steps n = suc steps < n
Enters e steps n = steps < n

abbrev pub start_of : the_progress.Progress entrances.Entrance → Progress Entrance
start_of = progress_of entrance_of

-- one that enters if its condition holds
abbrev pub where_applies : Result Bool Code → entrances.Entrance → Result (the_progress.Progress entrances.Entrance) Code
where_applies (Ok true) e = Ok (progress.Stops e)
where_applies (Ok false) e = Ok (progress.Over completion.GoOn)
where_applies (Err c) e = Err c

-- the rest of a command's arguments on top of frames, if there are any
abbrev pub listing : Position → List ArgTree → List View → List View
listing p [] fs = fs
listing p (a ∷ rest) fs = Lists p (a ∷ rest) ∷ fs
