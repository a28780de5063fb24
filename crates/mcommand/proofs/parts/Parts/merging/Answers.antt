-- SPDX-License-Identifier: Apache-2.0
use Rattle.mcommand.proofs.CommandLaws.{does_evaluated}
use Rattle.mcommand.proofs.parts.Parts.merging.Goals as goal

pub returns : goal.returns
returns g c = does_evaluated c.merging.ensures
