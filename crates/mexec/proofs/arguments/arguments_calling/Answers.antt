-- SPDX-License-Identifier: Apache-2.0
use Rattle.std.specs.Prelude.{◌≡◌, false, true}
use Rattle.mexec.proofs.arguments.arguments_calling.Goals as goal

pub arguments_in_turn-requires-clause-plain : goal.arguments_in_turn-requires-clause-plain
arguments_in_turn-requires-clause-plain g c = λ h. absurd (let clash : true ≡ false = h in cc)
