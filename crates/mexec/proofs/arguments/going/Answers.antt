-- SPDX-License-Identifier: Apache-2.0
use Rattle.mexec.proofs.ExecLaws.{refl, at_done, completion_of, condition_tree, position_of, at_as, at_then, at_stopped, at_gives, holds_here}
use Rattle.mmeaning.specs.LineMeaning as meaning
use Rattle.mexec.specs.declared.completion.Completion.TheVariants as completion
use Rattle.mexec.proofs.arguments.going.Goals as goal

pub returns-in_err-applies : goal.returns-in_err-applies
returns-in_err-applies g c =
    at_stopped _
    (at_as (holds_here (position_of c.args.position.now) (condition_tree c.args.condition.now) c.requires) (at_done c.args.position.now.depth c.in_err-applies.ensures)) c.from_residual.ensures

pub returns-then-applies : goal.returns-then-applies
returns-then-applies g c =
    let applies = rw c.if-applies.true at c.in_ok-applies.ensures in
    at_then _ (at_as (holds_here (position_of c.args.position.now) (condition_tree c.args.condition.now) c.requires) (at_done c.args.position.now.depth applies)) c.leads_to.ensures

pub returns-else-applies : goal.returns-else-applies
returns-else-applies g c =
    let applies = rw c.if-applies.false at c.in_ok-applies.ensures in
    at_then _ (at_as (holds_here (position_of c.args.position.now) (condition_tree c.args.condition.now) c.requires) (at_done c.args.position.now.depth applies)) (at_gives meaning.Go_on completion_of completion.GoOn refl)
