-- SPDX-License-Identifier: Apache-2.0
use Rattle.mstore.proofs.Words.{rules, subst, None, state, all_has, RiseFrom, ShowsNodeBy, shown_of, digits_of}
use Rattle.mstore.proofs.Adopts.{other_row, numbered_from}
use Rattle.mstore.proofs.opening.read_nodes.Goals as goal

pub returns-in-Ok-true-clause-nodes : goal.returns-in-Ok-true-clause-nodes
returns-in-Ok-true-clause-nodes g c sure calm r has =
    let all = c.in_ok-rows.ensures.all sure calm in
    let right = c.in-Ok-true.ensures.all (search rules) in
    all_has (ShowsNodeBy (digits_of c.args.version)) c.in_ok-rows.rows.items (shown_of r) (rw c.as_slice-2.ensures.value at right) (all.each r has)

pub returns-in-Ok-true-clause-numbered : goal.returns-in-Ok-true-clause-numbered
returns-in-Ok-true-clause-numbered g c sure calm =
    numbered_from (state g.S.Store c.args.conn.now) c.in_ok-rows.rows.items (c.in_ok-rows.ensures.all sure calm) (subst (RiseFrom None) c.as_slice.ensures.value (c.rise.ensures (search rules)))

pub returns-in-Ok-false-clause-key : goal.returns-in-Ok-false-clause-key
returns-in-Ok-false-clause-key g c sure calm _ =
    let all = c.in_ok-rows.ensures.all sure calm in
    let found = c.in-Ok-false.ensures.other (search rules) in
    other_row (digits_of c.args.version) (state g.S.Store c.args.conn.now) c.in_ok-rows.rows.items all (rw c.as_slice-2.ensures.value at found)
