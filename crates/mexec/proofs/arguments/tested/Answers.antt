-- SPDX-License-Identifier: Apache-2.0
use Rattle.mexec.proofs.ExecLaws.{give, inside, expr_tree, depth_of, residual_is, at_done, completion_of, at_then, at_failed, at_gives, at_as, testing_is}
use Rattle.mmeaning.specs.LineMeaning as meaning
use Rattle.mexec.proofs.arguments.tested.Goals as goal

pub returns-in_err-is_true : goal.returns-in_err-is_true
returns-in_err-is_true g c =
    rw (residual_is _ _ c.from_residual.ensures)
    (at_as (λ a n. testing_is (inside a n (depth_of c.args.position.now.depth)) (expr_tree c.args.e.now))
    (at_failed (λ a n b. give (meaning.where_true b)) (at_done c.args.position.now.depth c.in_err-is_true.ensures)))

pub returns : goal.returns
returns g c =
    at_as (λ a n. testing_is (inside a n (depth_of c.args.position.now.depth)) (expr_tree c.args.e.now))
    (at_then (λ a n b. give (meaning.where_true b)) (at_done c.args.position.now.depth c.in_ok-is_true.ensures) (at_gives _ completion_of c.where_true.result c.where_true.ensures))
