-- SPDX-License-Identifier: Apache-2.0
use Rattle.mexec.proofs.ExecLaws.{set_test, at_as, at_then, at_plain, closing_restores}
use Rattle.mexec.proofs.levels.close.Goals as goal

pub returns-in-Leaves : goal.returns-in-Leaves
returns-in-Leaves g c = rw c.in-Leaves.is (at_plain c.close_level.ensures)

pub returns-in-Restores : goal.returns-in-Restores
returns-in-Restores g c =
    at_as (λ a n. closing_restores c.args.closing c.in-Restores.test c.in-Restores.is)
    (at_then (λ a n _. set_test c.in-Restores.test) (at_plain c.close_level-in-Restores.ensures) (at_plain c.set_test.ensures))
