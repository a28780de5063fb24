-- SPDX-License-Identifier: Apache-2.0
use Rattle.mexec.proofs.ExecLaws.{suc, context, position_of, text_entered, runs_then, runs_stopped, runs_wanting}
use Rattle.mexec.proofs.entering.executing_value.Goals as goal

pub returns-in_err-depth-clause-does : goal.returns-in_err-depth-clause-does
returns-in_err-depth-clause-does g c =
    runs_stopped (λ a n _. text_entered (context a (suc n) (position_of c.args.position.now)) c.args.value) c.in_err-depth.ensures.does c.from_residual.ensures

pub returns-in_err-text-clause-does : goal.returns-in_err-text-clause-does
returns-in_err-text-clause-does g c =
    runs_then (λ a n _. text_entered (context a (suc n) (position_of c.args.position.now)) c.args.value) c.in_ok-depth.ensures.does (runs_wanting _ _ c.from_residual-in_err-text.ensures)

pub returns-clause-does : goal.returns-clause-does
returns-clause-does g c =
    let does = rw c.in_ok-text.ensures at c.enter_text.ensures.does in
    runs_then (λ a n _. text_entered (context a (suc n) (position_of c.args.position.now)) c.args.value) c.in_ok-depth.ensures.does does
