-- SPDX-License-Identifier: Apache-2.0
use Rattle.mexec.proofs.ExecLaws.{arith}
use Rattle.mexec.proofs.front.front.Goals as goal

pub commands_in_turn-requires-clause-plain : goal.commands_in_turn-requires-clause-plain
commands_in_turn-requires-clause-plain g c = λ _. omega (arith, c.if-may_call.false)
