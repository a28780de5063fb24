-- SPDX-License-Identifier: Apache-2.0
use Rattle.std.specs.Prelude.{◌≡◌, false, true}
use Rattle.mexec.proofs.front.commands_calling.Goals as goal

pub commands_in_turn-requires-clause-plain : goal.commands_in_turn-requires-clause-plain
commands_in_turn-requires-clause-plain g c = λ h. absurd (let clash : true ≡ false = h in cc)
