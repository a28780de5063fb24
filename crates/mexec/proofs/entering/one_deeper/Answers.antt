-- SPDX-License-Identifier: Apache-2.0
use Rattle.mexec.proofs.ExecLaws.{sym, give, a_level_free, ended, depth_of, at_evaluated, at_as, at_stopped}
use Rattle.mexec.proofs.entering.one_deeper.Goals as goal

pub returns-in_err-a_level_free-clause-does : goal.returns-in_err-a_level_free-clause-does
returns-in_err-a_level_free-clause-does g c =
    at_as (λ a n. sym (ended (a_level_free (depth_of c.args.depth)))) (at_stopped (λ a n u. give u) (at_evaluated c.args.depth c.in_err-a_level_free.ensures.does) c.from_residual.ensures)
