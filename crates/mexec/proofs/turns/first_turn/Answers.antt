-- SPDX-License-Identifier: Apache-2.0
use Rattle.mexec.proofs.ExecLaws.{runs_wanting}
use Rattle.mexec.proofs.turns.first_turn.Goals as goal

pub returns-in_err-copy-clause-does : goal.returns-in_err-copy-clause-does
returns-in_err-copy-clause-does g c = runs_wanting _ _ c.from_residual.ensures

pub returns-in_err-turns-clause-does : goal.returns-in_err-turns-clause-does
returns-in_err-turns-clause-does g c = runs_wanting _ _ c.from_residual-in_err-turns.ensures

pub returns-clause-does : goal.returns-clause-does
returns-clause-does g c =
    rw (c.in_ok-turns.ensures.ok, c.in_ok-copy.ensures.position, c.in_ok-copy.ensures.line, c.in_ok-copy.ensures.at) at c.begin_turn.ensures.does
