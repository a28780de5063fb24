-- SPDX-License-Identifier: Apache-2.0
use Rattle.mexec.proofs.ExecLaws.{arith, position_of, rest_tree, rest_passes, falls_off, rare_left}
use Rattle.mexec.proofs.line.run_frame.Goals as goal

pub run_rare_frame-requires : goal.run_rare_frame-requires
run_rare_frame-requires g c = rare_left _ c.in_default.not-Continuation c.in_default.not-ForLoop c.in_default.not-Level

pub returns-in-GoOn-clause-does : goal.returns-in-GoOn-clause-does
returns-in-GoOn-clause-does g c = rw (c.in-Continuation.is, c.in-GoOn.is) c.next_command.ensures.does

pub returns-in_default-completion : goal.returns-in_default-completion
returns-in_default-completion g c = record {
  falls = rw c.in-Continuation.is (omega arith);
  does =
      rw c.in-Continuation.is
      (rest_passes (position_of c.in-Continuation.rest.position.value) (rest_tree c.in-Continuation.rest) c.args.completion c.in_default-completion.not-GoOn);
}

pub returns-in-ForLoop-clause-does : goal.returns-in-ForLoop-clause-does
returns-in-ForLoop-clause-does g c = rw c.in-ForLoop.is c.after_turn.ensures.does

pub returns-in-Level-clause-does : goal.returns-in-Level-clause-does
returns-in-Level-clause-does g c =
    let does = rw c.deref.ensures at c.after_level-done.ensures.does in
    rw (c.in-Level.is, c.keep.ensures) does

pub returns-in-GoOn-clause-falls : goal.returns-in-GoOn-clause-falls
returns-in-GoOn-clause-falls g c = rw c.in-Continuation.is (falls_off _ _ c.next_command.result c.next_command.ensures.falls)

pub returns-in-ForLoop-clause-falls : goal.returns-in-ForLoop-clause-falls
returns-in-ForLoop-clause-falls g c = rw c.in-ForLoop.is (falls_off _ _ c.after_turn.result c.after_turn.ensures.falls)

pub returns-in-Level-clause-falls : goal.returns-in-Level-clause-falls
returns-in-Level-clause-falls g c = rw (c.in-Level.is, c.keep.ensures) (falls_off _ _ c.after_level-done.result c.after_level-done.ensures.falls)
