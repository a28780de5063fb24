-- SPDX-License-Identifier: Apache-2.0
use Rattle.mexec.proofs.ExecLaws.{true, refl, at_done, at_gives, no_course, not_found}
use Rattle.mexec.proofs.turns.goes_on.Goals as goal

pub returns-in-None : goal.returns-in-None
returns-in-None g c =
    let t = c.args.turns.now in
    let indexed = rw c.deref.ensures at c.loop_before.ensures.indexed in
    rw (no_course t.body.line.value t.body.at t.course (not_found c.loop_before.result _ c.in-None.is indexed) t.indexed) (at_gives true (λ b. b) true refl)

pub returns-in-Some : goal.returns-in-Some
returns-in-Some g c =
    let found = rw c.deref.ensures at c.in-Some.ensures.found in
    rw found (at_done c.args.parts.now.eval.depth c.advance_parameter.ensures)
