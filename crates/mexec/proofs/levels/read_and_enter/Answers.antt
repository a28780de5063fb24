-- SPDX-License-Identifier: Apache-2.0
use Rattle.mexec.proofs.ExecLaws.{get_or, [], get_or_read, position_of, closing_of, runs_wanting, line_refused, line_runs}
use Rattle.mexec.proofs.levels.read_and_enter.Goals as goal

pub returns-in_err-line-clause-does : goal.returns-in_err-line-clause-does
returns-in_err-line-clause-does g c =
    let lines = c.args.position.level.copy.value.items in
    let text = get_or_read lines c.args.at c.index.result.now c.requires.within (rw c.deref.ensures at c.index.ensures) [] in
    let read = rw (c.as_bytes-text.ensures.bytes, text, c.requires.language) at c.in_err-line.ensures.does in
    line_refused (position_of c.args.position) (closing_of c.args.closing) c.args.at (get_or lines c.args.at []) read c.from_residual.ensures

pub returns-in_err-enter_body-clause-does : goal.returns-in_err-enter_body-clause-does
returns-in_err-enter_body-clause-does g c = runs_wanting _ _ c.from_residual-in_err-enter_body.ensures

pub returns-clause-does : goal.returns-clause-does
returns-clause-does g c =
    let lines = c.args.position.level.copy.value.items in
    let text = get_or_read lines c.args.at c.index.result.now c.requires.within (rw c.deref.ensures at c.index.ensures) [] in
    let read = rw (c.as_bytes-text.ensures.bytes, text, c.requires.language) at c.in_ok-line.ensures.does in
    rw (c.in_ok-enter_body.ensures.frames, c.deref-2.ensures)
    (line_runs (position_of c.args.position) (closing_of c.args.closing) c.args.at (get_or lines c.args.at []) read)

pub read_routine_line-requires : goal.read_routine_line-requires
read_routine_line-requires g c = c.requires.known

pub enter_body-requires : goal.enter_body-requires
enter_body-requires g c = rw c.deref-2.ensures c.in_ok-line.ensures.played
