-- SPDX-License-Identifier: Apache-2.0
use Rattle.mexec.proofs.arguments.arguments_begun.Goals as goal

pub arguments_in_turn-requires-clause-plain : goal.arguments_in_turn-requires-clause-plain
arguments_in_turn-requires-clause-plain g c = λ _. c.requires.plain c.if-may_call.false
