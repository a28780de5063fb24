-- SPDX-License-Identifier: Apache-2.0
use Rattle.mcommand.proofs.Within.{within_deeper}
use Rattle.mcommand.proofs.parts.Parts.deeper_step.Goals as goal

pub returns : goal.returns
returns g c = within_deeper _ c.named_outside.ensures
