-- SPDX-License-Identifier: Apache-2.0
use Rattle.mexec.proofs.ExecLaws.{Rests, position_of, turning, runs_wanting, frame_top, stack_push, at_plain, turn_begins, turn_charge_failed, arith, size_push}
use Rattle.mexec.proofs.turns.begin_turn.Goals as goal

pub returns-in_err-charge-clause-does : goal.returns-in_err-charge-clause-does
returns-in_err-charge-clause-does g c =
    let t = c.args.turns.value in
    turn_charge_failed (position_of t.body.position.value) (turning t) (at_plain c.in_err-charge.ensures.does) c.from_residual.ensures

pub returns-in_err-body-clause-does : goal.returns-in_err-body-clause-does
returns-in_err-body-clause-does g c =
    let t = c.args.turns.value in
    turn_begins (position_of t.body.position.value) (turning t) (at_plain c.in_ok-charge.ensures.does) c.in_ok-charge.ensures.spent (runs_wanting _ _ c.from_residual-in_err-body.ensures)

pub returns-in_err-push-clause-does : goal.returns-in_err-push-clause-does
returns-in_err-push-clause-does g c =
    let t = c.args.turns.value in
    turn_begins (position_of t.body.position.value) (turning t) (at_plain c.in_ok-charge.ensures.does) c.in_ok-charge.ensures.spent (runs_wanting _ _ c.from_residual-in_err-push.ensures)

pub returns-in_err-push-2-clause-does : goal.returns-in_err-push-2-clause-does
returns-in_err-push-2-clause-does g c =
    let t = c.args.turns.value in
    turn_begins (position_of t.body.position.value) (turning t) (at_plain c.in_ok-charge.ensures.does) c.in_ok-charge.ensures.spent (runs_wanting _ _ c.from_residual-in_err-push-2.ensures)

pub returns-clause-does : goal.returns-clause-does
returns-clause-does g c =
    let t = c.args.turns.value in
    let d = position_of t.body.position.value in
    rw (c.in_ok-push-2.ensures.items, stack_push, c.in_ok-push.ensures.items, stack_push, c.in_ok-body.ensures.position, c.in_ok-body.ensures.line, c.in_ok-body.ensures.at, c.deref.ensures)
    (turn_begins d (turning t) (at_plain c.in_ok-charge.ensures.does) c.in_ok-charge.ensures.spent (frame_top (Rests d (turning t).body) (λ s n h. h)))

pub returns-clause-falls : goal.returns-clause-falls
returns-clause-falls g c =
    let spent = c.in_ok-charge.ensures.spent in
    rw (c.in_ok-push-2.ensures.items, size_push, c.in_ok-push.ensures.items, size_push) (omega (arith, spent))
