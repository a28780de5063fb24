-- SPDX-License-Identifier: Apache-2.0
use Rattle.mexec.proofs.ExecLaws.{get_or, [], position_of, closing_of, runs_stopped, at_plain, line_begins}
use Rattle.mexec.proofs.levels.enter_line.Goals as goal

pub returns-in_err-charge-clause-does : goal.returns-in_err-charge-clause-does
returns-in_err-charge-clause-does g c = runs_stopped _ (at_plain c.in_err-charge.ensures.does) c.from_residual.ensures

pub returns-clause-does : goal.returns-clause-does
returns-clause-does g c =
    let lines = c.args.position.level.copy.value.items in
    line_begins (position_of c.args.position) (closing_of c.args.closing) c.args.at (get_or lines c.args.at []) (at_plain c.in_ok-charge.ensures.does) c.in_ok-charge.ensures.spent c.read_and_enter.ensures.does

pub read_and_enter-requires-clause-known : goal.read_and_enter-requires-clause-known
read_and_enter-requires-clause-known g c = c.language-language.ensures.known
