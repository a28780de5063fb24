-- SPDX-License-Identifier: Apache-2.0
-- Trees in which no function is called: what is done of them is done without frames. And those in which each call stands where it can be
-- carried out a step at a time.
use Rattle.std.specs.Prelude.{◌≡◌, ◌≤◌, ℕ, List, map, Bool, false, ◌||◌, ◌&&◌}
use Rattle.std.specs.List.{list_any}
use Rattle.mgrammar.specs.Grammar.{CommandTree}
use Rattle.mgrammar.specs.CallsIn.{has_call_optional, has_call_arg, has_call_line}
use Rattle.mgrammar.specs.RoutineLine.{BodyTree, short, spaced_out}
use Rattle.mgrammar.specs.ProgramsIn.{in_steps_optional, in_steps_args}
use Rattle.mgrammar.specs.Languages.{since_args}
use Rattle.mtree.specs.Tree.{IsCounted, arg_tree}
use Rattle.mtree.specs.declared.tree.Arg.{Arg}
use Rattle.mtree.specs.declared.tree.Line.{Line}
use Rattle.mtree.specs.declared.tree.Body.{Body}
use Rattle.mtree.specs.declared.tree.Body.TheVariants as body

abbrev pub has_call_command : CommandTree → Bool
has_call_command c = has_call_optional c.condition || list_any has_call_arg c.args

abbrev pub has_call_body : BodyTree → Bool
has_call_body (short comment) = false
has_call_body (spaced_out dots l) = has_call_line l

abbrev pub in_steps_command : CommandTree → Bool
in_steps_command c = in_steps_optional c.condition && in_steps_args c.args

-- a line of a language that there is, whose first language was counted
abbrev pub IsPlayed : Line → Type 0
IsPlayed l = IsCounted l × (l.since ≤ 1)

abbrev pub IsBodyPlayed : Body → Type 0
IsBodyPlayed (body.Short comment) = Unit {0}
IsBodyPlayed (body.Spaced dots l) = IsPlayed l.value

-- arguments of such a language
abbrev pub ArePlayed : List Arg → (since : ℕ) → Type 0
ArePlayed args since = (since ≡ since_args (map arg_tree args)) × (since ≤ 1)
