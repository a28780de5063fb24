-- SPDX-License-Identifier: Apache-2.0
-- Steps of the code, which lend parts of a tree, as the definitions have them.
use Rattle.std.specs.Prelude.{List, [], map}
use Rattle.mspec.specs.Code.{M4}
use Rattle.mgrammar.specs.Grammar.{operand, exprs_of, choices_of}
use Rattle.mmeaning.specs.Programs as programs
use Rattle.mtree.specs.Tree.{sign_tree, binary_tree, expr_tree, tail_tree, operand_tree, primary_tree, choice_tree, actual_tree, entry_tree, destination_tree}
use Rattle.mtree.specs.Tree.{arg_tree, kind_tree, keyword_tree, parameter_tree, spaced_tree}
use Rattle.mtree.specs.declared.tree.Spaced.{Spaced}
use Rattle.mgrammar.specs.Grammar.{CommandTree}
use Rattle.mgrammar.specs.Commands.{form_of}
use Rattle.mprogram.specs.Wholes.{WholeTree, of_argument, of_condition, of_parameter}
use Rattle.mprogram.specs.Found.{FoundTree, step, past, passing_value, passing_choices}
use Rattle.mprogram.specs.declared.op.Whole.{Whole}
use Rattle.mprogram.specs.declared.op.Whole.TheVariants as whole
use Rattle.mprogram.specs.declared.op.Op.{Op}
use Rattle.mprogram.specs.declared.op.Op.TheVariants as op
use Rattle.mprogram.specs.declared.op.Ending.{Ending}
use Rattle.mprogram.specs.declared.op.Ending.TheVariants as ending
use Rattle.mprogram.specs.declared.op.Found.{Found}
use Rattle.mprogram.specs.declared.op.Found.TheVariants as found

-- the rest of a line, which is the body of a FOR
abbrev pub body_tree : List Spaced → List CommandTree
body_tree body = map (λ c. c.0) (map spaced_tree body)

abbrev pub whole_view : Whole → WholeTree
whole_view (whole.Argument a) = of_argument (arg_tree a.now)
whole_view (whole.Condition e) = of_condition (expr_tree e.now)
whole_view (whole.Parameter index q rest body) = of_parameter index.now (parameter_tree q.now) (map parameter_tree rest.now) (body_tree body.now)

abbrev pub op_view : Op → programs.Op
op_view (op.Operand o) = programs.Operand (operand_tree o.now)
op_view (op.Primary p) = programs.Operand (operand [] (primary_tree p.now))
op_view (op.Tail t) = programs.Tail (tail_tree t.now)
op_view op.Spend = programs.Spend
op_view (op.Sign signs) = programs.Sign (map sign_tree signs.now)
op_view (op.Join b) = programs.Join (binary_tree b)
op_view op.Raise = programs.Raise
op_view op.Values = programs.Values
op_view op.Add = programs.Add
op_view (op.Function word) = programs.Function word.now
op_view op.Begin = programs.Begin
op_view (op.Actual a) = programs.Actual (actual_tree a.now)
op_view op.Hand = programs.Hand
op_view op.HandName = programs.Hand_name
op_view (op.Call e) = programs.Call (entry_tree e.now)
op_view op.Where = programs.Where
op_view (op.Formats run) = programs.Formats run.now
op_view (op.Prepare d) = programs.Prepare (destination_tree d.now)
op_view op.Match = programs.Match
op_view op.MatchNot = programs.Match_not
op_view (op.Local name) = programs.Local name.now
op_view (op.Global name) = programs.Global name.now
op_view op.Naked = programs.Naked
op_view (op.Extended name) = programs.Extended name.now
op_view (op.Named subscripts) = programs.Named (exprs_of (map expr_tree subscripts.now))
op_view op.Deeper = programs.Deeper
op_view op.Attach = programs.Attach
op_view op.Read = programs.Read
op_view op.Data = programs.Data
op_view op.Resolve = programs.Resolve
op_view op.Get = programs.Get
op_view op.Walk = programs.Walk
op_view op.Order = programs.Order
op_view op.TellName = programs.Tell_name
op_view op.Increment = programs.Increment
op_view op.Seek = programs.Seek
op_view op.Query = programs.Query
op_view (op.Unless v) = passing_value (expr_tree v.now)
op_view (op.Pass rest) = passing_choices (choices_of (map choice_tree rest.now))
op_view op.NoChoice = programs.Refuse M4
op_view op.Targets = programs.Targets
op_view op.Target = programs.Target
op_view (op.Part word) = programs.Part word.now
op_view op.Names = programs.Names
op_view op.Name = programs.Name
op_view op.Numbers = programs.Numbers
op_view op.Number = programs.Number

abbrev pub ending_view : Ending → programs.Ending
ending_view ending.Assign = programs.Assign
ending_view ending.Show = programs.Show
ending_view ending.Tab = programs.Tab
ending_view ending.Character = programs.Character
ending_view ending.Test = programs.Test
ending_view ending.Hold = programs.Hold
ending_view ending.Wait = programs.Wait
ending_view ending.Return = programs.Return
ending_view ending.Run = programs.Run
ending_view (ending.Enter e is_listed) = programs.Enter (entry_tree e.now) is_listed
ending_view (ending.Go e) = programs.Go (entry_tree e.now)
ending_view ending.Kill = programs.Kill
ending_view ending.Merge = programs.Merge
ending_view (ending.Lock k is_timed) = programs.Lock (kind_tree k) is_timed
ending_view (ending.Indirect word) = programs.Indirect (form_of (keyword_tree word))
ending_view ending.Nothing = programs.Nothing
ending_view (ending.Loop index rest body) = programs.Loop index.now (map parameter_tree rest.now) (body_tree body.now)

abbrev pub found_view : Found → FoundTree
found_view (found.Op o) = step (op_view o)
found_view (found.Past left) = past left
