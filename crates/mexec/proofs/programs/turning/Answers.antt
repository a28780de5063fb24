-- SPDX-License-Identifier: Apache-2.0
use Rattle.mexec.proofs.ExecLaws.{refl, runs_wanting}
use Rattle.mexec.proofs.programs.turning.Goals as goal

pub returns-in-Argument-clause-does : goal.returns-in-Argument-clause-does
returns-in-Argument-clause-does g c = λ w there. runs_wanting _ _ (refl, refl)

pub returns-in-Condition-clause-does : goal.returns-in-Condition-clause-does
returns-in-Condition-clause-does g c = λ w there. runs_wanting _ _ (refl, refl)

pub returns-in-Parameter-clause-does : goal.returns-in-Parameter-clause-does
returns-in-Parameter-clause-does g c = λ w there.
    let there = rw c.in-Parameter.is at there in
    rw c.in-Parameter.is (c.turned.ensures.does w there)
