-- SPDX-License-Identifier: Apache-2.0
use Rattle.mexec.proofs.ExecLaws.{args_before, no_parameters, not_found, further_runs, no_parameters_run}
use Rattle.mexec.proofs.turns.further.Goals as goal

pub returns-in-None-clause-does : goal.returns-in-None-clause-does
returns-in-None-clause-does g c =
    let t = c.args.turns in
    let indexed = rw c.deref.ensures at c.loop_before.ensures.indexed in
    no_parameters_run t (no_parameters (args_before t.body.line.value t.body.at) (not_found c.loop_before.result _ c.in-None.is indexed))

pub returns-clause-does : goal.returns-clause-does
returns-clause-does g c =
    let found = rw c.deref.ensures at c.in-Some.ensures.found in
    further_runs c.args.turns c.in-Some.index.now c.in-Some.parameters.now found c.next_parameter.ensures.does
