-- SPDX-License-Identifier: Apache-2.0
-- The arguments of the command before a place of a line, and what is in them if it is a FOR.
use Rattle.std.specs.Prelude.{ℕ, ◌-◌, Bool, true, false, List, [], ◌∷◌, Option, Some, None, slice_get}
use Rattle.mspec.specs.Act.{Text}
use Rattle.mtree.specs.declared.tree.Parameter.{Parameter}
use Rattle.mtree.specs.declared.tree.Arg.{Arg}
use Rattle.mtree.specs.declared.tree.Arg.TheVariants as arg
use Rattle.mtree.specs.declared.tree.Spaced.{Spaced}
use Rattle.mtree.specs.declared.tree.Line.{Line}
use Rattle.mcommand.specs.declared.for_parameter.Course.{Course}
use Rattle.mcommand.specs.declared.for_parameter.Course.TheVariants as course

abbrev pub args_of : Option Spaced → List Arg
args_of None = []
args_of (Some s) = s.command.args.items

-- the command before a place
abbrev pub spaced_before : Line → ℕ → Option Spaced
spaced_before l at = slice_get l.commands.items (at - 1)

-- its arguments
abbrev pub args_before : Line → ℕ → List Arg
args_before l at = args_of (spaced_before l at)

-- the index and the parameters of a FOR; none for another command, or for a FOR without arguments
abbrev pub loop_in : List Arg → Text × List Parameter
loop_in (arg.Loop index parameters ∷ more) = (index, parameters.items)
loop_in others = ([], [])

-- its index and its parameters
abbrev pub loop_before : Line → ℕ → Text × List Parameter
loop_before l at = loop_in (args_before l at)

-- whether these are the arguments of a FOR that has an index
abbrev pub is_loop : List Arg → Bool
is_loop (arg.Loop index parameters ∷ more) = true
is_loop others = false

abbrev pub has_index : Line → ℕ → Bool
has_index l at = is_loop (args_before l at)

-- whether turns of the FOR before a place can have a course: without an index they have no end
abbrev pub has_course : Line → ℕ → Course → Bool
has_course l at course.LastTurn = has_index l at
has_course l at (course.Endless by) = has_index l at
has_course l at (course.Limited by limit) = has_index l at
has_course l at course.Forever = true
