-- SPDX-License-Identifier: Apache-2.0
use Rattle.mexec.proofs.ExecLaws.{ap, sym, refl, context, begin_turn, ForLoop, position_of, loop_in, runs_wanting, runs_as, turning_of_none}
use Rattle.mcommand.specs.declared.for_parameter.Course.TheVariants.{Forever}
use Rattle.mexec.proofs.continuation.forever.Goals as goal

pub returns-in_err-copy-clause-does : goal.returns-in_err-copy-clause-does
returns-in_err-copy-clause-does g c = runs_wanting _ _ c.from_residual.ensures

pub returns-in_err-new-clause-does : goal.returns-in_err-new-clause-does
returns-in_err-new-clause-does g c = runs_wanting _ _ c.from_residual-in_err-new.ensures

pub returns-clause-does : goal.returns-clause-does
returns-clause-does g c =
    let does = rw (c.in_ok-new.ensures.ok, c.in_ok-copy.ensures.position, c.in_ok-copy.ensures.line, c.in_ok-copy.ensures.at) at c.begin_turn.ensures.does in
    let t : ForLoop = record { body = c.args.behind.now; parameter = 0; course = Forever; indexed = refl } in
    runs_as (λ a n. ap (begin_turn (context a n (position_of c.args.behind.now.position.value))) (sym (turning_of_none t (ap loop_in c.requires)))) does
