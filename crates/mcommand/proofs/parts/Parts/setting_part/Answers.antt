-- SPDX-License-Identifier: Apache-2.0
use Rattle.mcommand.proofs.parts.Parts.setting_part.Goals as goal

pub returns : goal.returns
returns g c =
    let does = rw c.deref-2.ensures at c.setting_by_two.ensures in
    rw c.in-Part.is does
