-- SPDX-License-Identifier: Apache-2.0
-- Frames of the program as those of the definitions, and what calls say of them.
use Rattle.std.specs.Prelude.{◌≡◌, ℕ, suc, ◌≤◌, ◌<◌, List, [], ◌∷◌, Option, Some, None, Result, Ok, Err, map, drop, true}
use Rattle.mspec.specs.Act.{Text, Act}
use Rattle.mgrammar.specs.Grammar.{CommandTree, quit_word}
use Rattle.mmeaning.specs.LineMeaning as meaning
use Rattle.mmeaning.specs.LineMeaning.{Position, Turning}
use Rattle.mmeaning.specs.Calls.{Follows}
use Rattle.mmeaning.specs.Levels as levels
use Rattle.mmeaning.specs.Frames.{View, Rests, Lists, Turns, Levels, Programs, Conditions, left, Enough, MovedOn}
use Rattle.mtree.specs.Tree.{spaced_tree, parameter_tree, arg_tree, command_tree}
use Rattle.mtree.specs.declared.tree.Arg.{Arg}
use Rattle.mtree.specs.declared.tree.Line.{Line}
use Rattle.mtree.specs.declared.tree.Spaced.{Spaced}
use Rattle.mnodes.specs.Over.{DoubtsOver}
use Rattle.mnodes.specs.Steady.{IsSteady}
use Rattle.mnodes.specs.declared.store.NodeStore.{Ghosts}
use Rattle.moperator.specs.Codes.{fault_of}
use Rattle.moperator.specs.declared.code.Code.{Code}
use Rattle.meval.specs.Evaluates.{is_kept, standing_of, depth_of}
use Rattle.mcommand.specs.declared.parts.Parts.{Parts}
use Rattle.mcommand.specs.Does.{KeepsLoans, here_of}
use Rattle.mcommand.specs.Targets.{target_view}
use Rattle.mcommand.specs.ForParameters.{course_view}
use Rattle.mcommand.specs.declared.for_parameter.Course.{Course}
use Rattle.mcommand.specs.Steps.{items_view}
pub use Rattle.mexec.specs.Loops.{loop_in, args_of, args_before, loop_before, spaced_before}
pub use Rattle.mexec.specs.Wholes.{whole_of, steps_within, ending_within}
use Rattle.mexec.specs.declared.frames.Level as level
use Rattle.mexec.specs.declared.frames.Position as position
use Rattle.mexec.specs.declared.frames.Closing.{Closing}
use Rattle.mexec.specs.declared.frames.Closing.TheVariants as closing
use Rattle.mexec.specs.declared.frames.Continuation.{Continuation}
use Rattle.mexec.specs.declared.frames.ForLoop as loops
use Rattle.mexec.specs.declared.holder.Holder.{Holder}
use Rattle.mexec.specs.declared.holder.Holder.TheVariants as holder
use Rattle.mexec.specs.declared.frames.Frame.{Frame}
use Rattle.mexec.specs.declared.frames.Frame.TheVariants as frame
use Rattle.mexec.specs.declared.completion.Completion.{Completion}
use Rattle.mexec.specs.declared.completion.Completion.TheVariants as completion
use Rattle.mexec.specs.declared.source.Source.{Source}
use Rattle.mexec.specs.declared.source.Source.TheVariants as source

abbrev pub completion_of : Completion → meaning.Completion
completion_of completion.GoOn = meaning.Go_on
completion_of completion.Skips = meaning.Skips
completion_of completion.Quits = meaning.Quits
completion_of (completion.Goes t) = meaning.Goes (target_view t)
completion_of (completion.Returns v) = meaning.Returns v.value

abbrev pub level_of : level.Level → levels.Level
level_of l = record { copy = l.copy.value.items; next = l.next; dots = l.dots }

abbrev pub position_of : position.Position → Position
position_of p = record { depth = depth_of p.depth; level = level_of p.level }

abbrev pub closing_of : Closing → levels.Closing
closing_of closing.Stays = levels.stays
closing_of closing.Leaves = levels.leaves
closing_of (closing.Restores test) = levels.restores test
closing_of (closing.Answers test) = levels.answers test

-- a command that is done goes on with what is next
abbrev pub went : Result (Unit {0}) Code → Result Completion Code
went (Ok u) = Ok completion.GoOn
went (Err c) = Err c

-- the commands of a line from a place on
abbrev pub commands_from : Line → ℕ → List CommandTree
commands_from l at = map (λ c. c.0) (map spaced_tree (drop at l.commands.items))

abbrev pub rest_tree : Continuation → List CommandTree
rest_tree r = commands_from r.line.value r.at

-- a FOR of which this body is the rest of the line, from one of its parameters on
abbrev pub turning_at : Continuation → ℕ → Course → Turning
turning_at body parameter course =
    let found = loop_before body.line.value body.at in
    record { index = found.0; course = course_view course; parameters = map parameter_tree (drop parameter found.1); body = rest_tree body }

abbrev pub turning : loops.ForLoop → Turning
turning t = turning_at t.body t.parameter t.course

-- where arguments are done, and which they are
abbrev pub source_position : Source → position.Position
source_position (source.Line behind) = behind.now.position.value
source_position (source.Text given) = given.now.value.position

abbrev pub source_args : Source → List Arg
source_args (source.Line behind) = args_before behind.now.line.value behind.now.at
source_args (source.Text given) = given.now.value.args.items

-- the first language that has all forms of their line, or of their text
abbrev pub source_since : Source → ℕ
source_since (source.Line behind) = behind.now.line.value.since
source_since (source.Text given) = given.now.value.since

-- where a program stands
abbrev pub holder_position : Holder → position.Position
holder_position (holder.Line behind at) = behind.position.value
holder_position (holder.Text given at) = given.value.position
holder_position (holder.Condition behind) = behind.position.value
holder_position (holder.Parameter body at) = body.position.value

-- a command, of which there always is one
abbrev pub command_in : Option Spaced → CommandTree
command_in None = record { keyword = quit_word; word = []; condition = None; args = [] }
command_in (Some s) = command_tree s.command

abbrev pub view : Frame → View
view (frame.Continuation r) = Rests (position_of r.position.value) (rest_tree r)
view (frame.PendingArguments l) = Lists (position_of l.behind.position.value) (map arg_tree (drop l.argument (args_before l.behind.line.value l.behind.at)))
view (frame.IndirectArguments g argument) = Lists (position_of g.value.position) (map arg_tree (drop argument g.value.args.items))
view (frame.ForLoop t) = Turns (position_of t.value.body.position.value) (turning t.value)
view (frame.Level p c) = Levels (position_of p.value) (closing_of c)
view (frame.Program s) =
    Programs (position_of (holder_position s.value.holder)) (depth_of s.value.depth) (drop s.value.at (steps_within (whole_of s.value.holder)))
    (ending_within (whole_of s.value.holder))
    (items_view s.value.items.items)
view (frame.Condition behind) = Conditions (position_of behind.position.value) (command_in (spaced_before behind.line.value behind.at)) (rest_tree behind)

-- the last frame pushed is on top
abbrev pub stacked : List View → List Frame → List View
stacked below [] = below
stacked below (f ∷ fs) = stacked (view f ∷ below) fs

abbrev pub stack : List Frame → List View
stack fs = stacked [] fs

-- the rest of a line on top of frames, if there is any
abbrev pub resting : Position → List CommandTree → List View → List View
resting p [] fs = fs
resting p (c ∷ cs) fs = Rests p (c ∷ cs) ∷ fs

-- a call does an act before some frames, and leaves frames that have to do what is then left; how many texts the act may enter fits the steps
pub record RunsIf {S : Type 0} (fits : (steps n : ℕ) → Type 0) (g : Ghosts S) (p : Text → ℕ → Act meaning.Completion) (fs : List View) (old : Parts S) (r : Result Completion Code) (fs' : List View) (new : Parts S) : Type 0 where
  pub at : g.doubt new.eval.store.now ≡ 0 → (n : ℕ) (ns : List ℕ) → fits old.eval.steps n → Enough old.eval.steps fs ns →
      MovedOn (standing_of old.eval) (IsSteady g new.eval.store.now) fault_of completion_of (p (standing_of old.eval).account n) (left (standing_of old.eval).account fs ns) (here_of g old) r fs' (here_of g new)
  pub doubt : DoubtsOver g old.eval.store.now new.eval.store.now (is_kept r)
  pub keeps : KeepsLoans old new

-- as many as there are steps
abbrev pub Runs : {S : Type 0} → Ghosts S → (Text → ℕ → Act meaning.Completion) → List View → Parts S → Result Completion Code → List View → Parts S → Type 0
Runs = RunsIf (λ steps n. steps ≤ n)

-- one more, as within a command, whose own step is spent
abbrev pub RunsWithin : {S : Type 0} → Ghosts S → (Text → ℕ → Act meaning.Completion) → List View → Parts S → Result Completion Code → List View → Parts S
    → Type 0
RunsWithin = RunsIf (λ steps n. steps < n)

-- two more, as after a step of a program
abbrev pub RunsFurther : {S : Type 0} → Ghosts S → (Text → ℕ → Act meaning.Completion) → List View → Parts S → Result Completion Code → List View → Parts S
    → Type 0
RunsFurther = RunsIf (λ steps n. suc steps < n)

-- what the frames have to do with a completion is what is left of an act
pub record Leads {S : Type 0} (g : Ghosts S) (p : Text → ℕ → Act meaning.Completion) (old : Parts S) (fs : List View) (s : meaning.Completion) (new : Parts S) : Type 0 where
  pub at : g.doubt new.eval.store.now ≡ 0 → (n : ℕ) → old.eval.steps ≤ n →
      (ns : List ℕ) × Enough new.eval.steps fs ns ×
      Follows (standing_of old.eval) (p (standing_of old.eval).account n) (here_of g old) (left (standing_of old.eval).account fs ns s) (here_of g new)
  pub doubt : DoubtsOver g old.eval.store.now new.eval.store.now true
  pub keeps : KeepsLoans old new
