-- SPDX-License-Identifier: Apache-2.0
use Rattle.mexec.proofs.ExecLaws.{runs_within}
use Rattle.mexec.proofs.programs.entering_lines.Goals as goal

pub returns-clause-does : goal.returns-clause-does
returns-clause-does g c = runs_within c.entering.ensures.does
