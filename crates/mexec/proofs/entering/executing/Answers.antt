-- SPDX-License-Identifier: Apache-2.0
use Rattle.mexec.proofs.ExecLaws.{context, position_of, expr_tree, at_as, at_evaluated, value_here, runs_spent, runs_stopped}
use Rattle.mmeaning.specs.LineMeaning.{text_executed}
use Rattle.mexec.proofs.entering.executing.Goals as goal

pub returns-in_err-text-clause-does : goal.returns-in_err-text-clause-does
returns-in_err-text-clause-does g c =
    runs_stopped (λ a n. text_executed (context a n (position_of c.args.position.now))) (at_as (value_here (position_of c.args.position.now) (expr_tree c.args.e.now) c.requires) (at_evaluated c.args.position.now.depth c.in_err-text.ensures.does)) c.from_residual.ensures

pub returns-clause-does : goal.returns-clause-does
returns-clause-does g c =
    runs_spent (λ a n. text_executed (context a n (position_of c.args.position.now))) (at_as (value_here (position_of c.args.position.now) (expr_tree c.args.e.now) c.requires) (at_evaluated c.args.position.now.depth c.in_ok-text.ensures.does)) c.in_ok-text.ensures.spent c.executing_value.ensures.does
