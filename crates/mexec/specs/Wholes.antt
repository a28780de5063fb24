-- SPDX-License-Identifier: Apache-2.0
-- What has a program, at the place where it stands. It is kept apart from Frames, because frames name it.
use Rattle.std.specs.Prelude.{ℕ, ◌+◌, List, [], Option, Some, None, map, drop, option_map, slice_get}
use Rattle.mspec.specs.Act.{Text}
use Rattle.mgrammar.specs.Grammar.{CommandTree}
use Rattle.mmeaning.specs.Programs.{Op, Ending, Hold}
use Rattle.mtree.specs.Tree.{arg_tree, command_tree, parameter_tree}
use Rattle.mtree.specs.declared.tree.Line.{Line}
use Rattle.mtree.specs.declared.tree.Parameter.{Parameter}
use Rattle.mtree.specs.declared.tree.Arg.{Arg}
use Rattle.mtree.specs.declared.tree.Spaced.{Spaced}
use Rattle.mprogram.specs.Views.{body_tree}
use Rattle.mprogram.specs.Wholes.{WholeTree, of_argument, of_condition, of_parameter, steps_of, ending_of}
use Rattle.mexec.specs.Loops.{args_before, loop_before, spaced_before}
use Rattle.mexec.specs.declared.holder.Holder.{Holder}
use Rattle.mexec.specs.declared.holder.Holder.TheVariants as holder

-- one of some arguments
abbrev pub argument_of : List Arg → ℕ → Option WholeTree
argument_of args at = option_map (λ a. of_argument (arg_tree a)) (slice_get args at)

-- the condition of a command, if it has one
abbrev pub condition_of : Option Spaced → Option WholeTree
condition_of None = None
condition_of (Some s) = option_map of_condition (command_tree s.command).condition

-- one of the parameters of a FOR, before this rest of the line
abbrev pub parameter_in : Text × List Parameter → List CommandTree → ℕ → Option WholeTree
parameter_in found body at =
    option_map (λ q. of_parameter found.0 (parameter_tree q) (map parameter_tree (drop (at + 1) found.1)) body) (slice_get found.1 at)

abbrev pub parameter_of : Line → ℕ → ℕ → Option WholeTree
parameter_of l place at = parameter_in (loop_before l place) (body_tree (drop place l.commands.items)) at

abbrev pub whole_of : Holder → Option WholeTree
whole_of (holder.Line behind at) = argument_of (args_before behind.line.value behind.at) at
whole_of (holder.Text given at) = argument_of given.value.args.items at
whole_of (holder.Condition behind) = condition_of (spaced_before behind.line.value behind.at)
whole_of (holder.Parameter body at) = parameter_of body.line.value body.at at

-- of nothing there are no steps
abbrev pub steps_within : Option WholeTree → List Op
steps_within None = []
steps_within (Some w) = steps_of w

abbrev pub ending_within : Option WholeTree → Ending
ending_within None = Hold
ending_within (Some w) = ending_of w
