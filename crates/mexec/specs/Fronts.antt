-- SPDX-License-Identifier: Apache-2.0
-- How far arguments, a command and a line are done before a frame is needed, and what is then left of them.
use Rattle.std.specs.Prelude.{◌≡◌, ◌<◌, ℕ, cond, List, [], ◌∷◌, Option, None, Some, Result, Ok, Err, true, map, drop}
use Rattle.mspec.specs.Act.{Text, Act, ◌>>=◌, ◌>>◌, give, fail, charge}
use Rattle.mspec.specs.Code.{M16}
use Rattle.mgrammar.specs.Grammar.{KeywordTree, for_word, do_word, ParameterTree, ArgTree, loop, CommandTree}
use Rattle.mmeaning.specs.LineMeaning as meaning
use Rattle.mmeaning.specs.LineMeaning.{Go_on, Skips, Quits, Goes, Returns, Context, inside_of, holds, after, bare, commands, conditional, next_parameter}
use Rattle.mmeaning.specs.LineMeaning.{turns_forever, doing_block, Turning, after_course}
use Rattle.mgrammar.specs.CallsIn.{has_call_optional}
use Rattle.mgrammar.specs.ProgramsIn.{in_steps_optional}
use Rattle.mtree.specs.Tree.{arg_tree, command_tree, parameter_tree}
use Rattle.mtree.specs.declared.tree.Command.{Command}
use Rattle.mtree.specs.declared.tree.Spaced.{Spaced}
use Rattle.mtree.specs.declared.tree.Arg.{Arg}
use Rattle.mtree.specs.declared.tree.Line.{Line}
use Rattle.moperator.specs.declared.code.Code.{Code}
use Rattle.mexec.specs.declared.arguments.Entrance as entrances
use Rattle.mexec.specs.declared.completion.Progress as the_progress
use Rattle.mexec.specs.declared.completion.Progress.TheVariants as progress
use Rattle.mexec.specs.declared.front.Stop as the_stop
use Rattle.mexec.specs.declared.front.Stop.TheVariants as stop
use Rattle.mexec.specs.Progress.{Progress, over, stops, behind, progress_of}
use Rattle.mexec.specs.Arguments.{Entrance, Enters, IsReady, ahead, started, entered_then, start_of, entrance_of}
use Rattle.mexec.specs.Frames.{commands_from}
use Rattle.mexec.specs.Loops.{loop_in, is_loop, args_before}

-- where a command needs a frame: at what an argument enters, before those after it; at a FOR with an index and parameters; at one without
-- arguments; at the block of a DO without arguments; or at a condition in which functions are called
pub data Stop : Type 0 where
  at_argument : Entrance → List ArgTree → Stop
  at_loop : Text → List ParameterTree → Stop
  at_turns : Stop
  at_block : Stop
  at_condition : CommandTree → Stop

-- ---- arguments

abbrev pub args_started : Context → List ArgTree → Act (Progress Entrance × List ArgTree)
args_started x [] = give (over Go_on, [])
args_started x (a ∷ more) = started x a >>= (λ st. behind st more (args_started x more))

-- what is then left of them
abbrev pub args_left : Context → Progress Entrance → List ArgTree → Act meaning.Completion
args_left x (over s) more = give s
args_left x (stops e) more = entered_then x e more

-- ---- a command

abbrev pub args_outcome : Progress Entrance → List ArgTree → Progress Stop
args_outcome (over s) more = over s
args_outcome (stops e) more = stops (at_argument e more)

-- a word without arguments
abbrev pub word_started : Context → KeywordTree → Act (Progress Stop)
word_started x for_word = give (stops at_turns)
word_started x do_word = give (stops at_block)
word_started x k = bare x k [] >>= (λ s. give (over s))

abbrev pub effect_started : Context → KeywordTree → List ArgTree → Act (Progress Stop)
effect_started x k [] = word_started x k
effect_started x k (loop index parameters ∷ more) = give (stops (at_loop index parameters))
effect_started x k (a ∷ more) = args_started x (a ∷ more) >>= (λ w. give (args_outcome w.0 w.1))

abbrev pub command_started_plainly : Context → CommandTree → Act (Progress Stop)
command_started_plainly x c = holds (inside_of x) c.condition >>= (λ b. cond b (effect_started x c.keyword c.args) (give (over Go_on)))

-- one whose condition has a call stops there
abbrev pub command_started : Context → CommandTree → Act (Progress Stop)
command_started x c = cond (has_call_optional c.condition) (give (stops (at_condition c))) (command_started_plainly x c)

-- what is left of it where it stops, before the rest of its line
abbrev pub stop_left : Context → List CommandTree → Stop → Act meaning.Completion
stop_left x rest (at_argument e more) = entered_then x e more
stop_left x rest (at_loop index parameters) = next_parameter x index rest parameters
stop_left x rest at_turns = turns_forever x rest
stop_left x rest at_block = doing_block x
stop_left x rest (at_condition c) = conditional x c rest

abbrev pub finishes : Context → List CommandTree → Progress Stop → Act meaning.Completion
finishes x rest (over s) = give s
finishes x rest (stops st) = stop_left x rest st

-- ---- a line

abbrev pub front : Context → List CommandTree → Act (Progress Stop × List CommandTree)
front x [] = give (over Go_on, [])
front x (c ∷ rest) = charge >> (command_started x c >>= (λ o. behind o rest (front x rest)))

-- what is left of a line that stops: the command, and the rest
abbrev pub resumed : Context → Stop → List CommandTree → Act meaning.Completion
resumed x st rest = stop_left x rest st >>= (λ s. after s (commands x rest))

abbrev pub line_left : Context → Progress Stop → List CommandTree → Act meaning.Completion
line_left x (over s) rest = give s
line_left x (stops st) rest = resumed x st rest

-- ---- a turn of a FOR

-- what it ends the FOR with, unless the FOR goes on with its course; no value is wanted of it
abbrev pub turn_ends : meaning.Completion → Act (Option meaning.Completion)
turn_ends Go_on = give None
turn_ends Skips = give None
turn_ends Quits = give (Some Skips)
turn_ends (Goes t) = give (Some (Goes t))
turn_ends (Returns v) = fail M16

abbrev pub turn_left : Context → Turning → Option meaning.Completion → Act meaning.Completion
turn_left x t None = after_course x t t.course
turn_left x t (Some s) = give s

-- ---- the same for the program

-- arguments of these, up to a place
abbrev pub begun_of : List Arg → the_progress.Progress entrances.Entrance × ℕ → Progress Entrance × List ArgTree
begun_of args w = (start_of w.0, map arg_tree (drop w.1 args))

abbrev pub stop_of : List Arg → the_stop.Stop → Stop
stop_of args (stop.Argument e at) = at_argument (entrance_of e) (map arg_tree (drop at args))
stop_of args (stop.Loop index parameters) = at_loop index.now (map parameter_tree parameters.now)
stop_of args stop.Turns = at_turns
stop_of args stop.Block = at_block
stop_of args (stop.Condition c) = at_condition (command_tree c.now)

abbrev pub outcome_of : List Arg → the_progress.Progress the_stop.Stop → Progress Stop
outcome_of args = progress_of (stop_of args)

abbrev pub front_of : Line → the_progress.Progress the_stop.Stop × ℕ → Progress Stop × List CommandTree
front_of l w = (outcome_of (args_before l w.1) w.0, commands_from l w.1)

-- how many steps are spent in a command before it stops, besides its own, and how many texts may be entered where it does
abbrev pub stop_ahead : the_stop.Stop → ℕ
stop_ahead (stop.Argument e at) = ahead e
stop_ahead st = 0

abbrev pub StopFits : the_stop.Stop → (steps n : ℕ) → Type 0
StopFits (stop.Argument e at) steps n = Enters e steps n
StopFits st steps n = steps < n

-- what a stop says of the arguments of its command, in which each call stands where steps are
abbrev pub StopsIn : List Arg → the_stop.Stop → Type 0
StopsIn args (stop.Argument e at) = IsReady args at e
StopsIn args (stop.Loop index parameters) = (loop_in args ≡ (index.now, parameters.now)) × (is_loop args ≡ true)
StopsIn args stop.Turns = args ≡ []
StopsIn args stop.Block = Unit {0}
StopsIn args (stop.Condition c) = ⊥

-- of its command
abbrev pub StopsAt : Command → the_stop.Stop → Type 0
StopsAt c (stop.Condition d) = (d.now ≡ c) × (has_call_optional (command_tree c).condition ≡ true) × (in_steps_optional (command_tree c).condition ≡ true)
StopsAt c st = StopsIn c.args.items st

-- and of the command before a place of a line
abbrev pub StopsBefore : Option Spaced → the_stop.Stop → Type 0
StopsBefore None st = ⊥
StopsBefore (Some s) st = StopsAt s.command st

-- arguments as an outcome
abbrev pub at_begun : the_progress.Progress entrances.Entrance → ℕ → the_progress.Progress the_stop.Stop
at_begun (progress.Over s) at = progress.Over s
at_begun (progress.Stops e) at = progress.Stops (stop.Argument e at)

abbrev pub stops_at : Result (the_progress.Progress entrances.Entrance × ℕ) Code → Result (the_progress.Progress the_stop.Stop) Code
stops_at (Ok w) = Ok (at_begun w.0 w.1)
stops_at (Err c) = Err c
