-- SPDX-License-Identifier: Apache-2.0
use Rattle.mexec.proofs.ExecLaws.{context, given_by, form_of, keyword_tree, primary_tree, at_evaluated, position_of}
use Rattle.mexec.proofs.ExecLaws.{then_if, within_stopped, at_as, primary_here}
use Rattle.mexec.proofs.ExecLaws.{falls_further, arith}
use Rattle.mexec.proofs.indirection.giving.Goals as goal

pub returns-in_err-text-clause-does : goal.returns-in_err-text-clause-does
returns-in_err-text-clause-does g c =
    let p = position_of c.args.position.now in
    within_stopped (λ a n. given_by (context a n p) (form_of (keyword_tree c.args.keyword)))
    (at_as (primary_here p (primary_tree c.args.operand.now) c.requires) (at_evaluated c.args.position.now.depth c.in_err-text.ensures.does))
    c.from_residual.ensures

pub returns-clause-does : goal.returns-clause-does
returns-clause-does g c =
    let p = position_of c.args.position.now in
    let spent = c.in_ok-text.ensures.spent in
    then_if (λ a n. given_by (context a n p) (form_of (keyword_tree c.args.keyword))) (λ s n h. omega (arith, h))
    (at_as (primary_here p (primary_tree c.args.operand.now) c.requires) (at_evaluated c.args.position.now.depth c.in_ok-text.ensures.does))
    (λ n h. omega (arith, h, spent)) c.giving_value.ensures.does

pub returns-clause-falls : goal.returns-clause-falls
returns-clause-falls g c =
    let spent = c.in_ok-text.ensures.spent in
    falls_further _ _ _ c.giving_value.result (omega (arith, spent)) c.giving_value.ensures.falls
