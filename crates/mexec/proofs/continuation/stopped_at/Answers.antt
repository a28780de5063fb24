-- SPDX-License-Identifier: Apache-2.0
use Rattle.mexec.proofs.ExecLaws.{arith, most_ahead, falls_within, runs_within, argument_before, condition_stop, loop_stop, turns_stop}
use Rattle.mexec.specs.Frames.{spaced_before}
use Rattle.mexec.proofs.continuation.stopped_at.Goals as goal

pub enter_argument-requires : goal.enter_argument-requires
enter_argument-requires g c =
    let stops = rw c.in-Argument.is at c.requires in
    argument_before (spaced_before c.args.behind.now.line.value c.args.behind.now.at) _ _ stops

pub returns-in-Argument-clause-does : goal.returns-in-Argument-clause-does
returns-in-Argument-clause-does g c = rw c.in-Argument.is c.enter_argument.ensures.does

pub next_parameter-requires-clause-found : goal.next_parameter-requires-clause-found
next_parameter-requires-clause-found g c =
    (loop_stop (spaced_before c.args.behind.now.line.value c.args.behind.now.at) _ _ (rw c.in-Loop.is at c.requires)).0

pub next_parameter-requires-clause-indexed : goal.next_parameter-requires-clause-indexed
next_parameter-requires-clause-indexed g c =
    (loop_stop (spaced_before c.args.behind.now.line.value c.args.behind.now.at) _ _ (rw c.in-Loop.is at c.requires)).1

pub returns-in-Loop-clause-does : goal.returns-in-Loop-clause-does
returns-in-Loop-clause-does g c = rw c.in-Loop.is c.next_parameter.ensures.does

pub forever-requires : goal.forever-requires
forever-requires g c = turns_stop (spaced_before c.args.behind.now.line.value c.args.behind.now.at) (rw c.in-Turns.is at c.requires)

pub returns-in-Turns-clause-does : goal.returns-in-Turns-clause-does
returns-in-Turns-clause-does g c = rw c.in-Turns.is c.forever.ensures.does

pub returns-in-Block-clause-does : goal.returns-in-Block-clause-does
returns-in-Block-clause-does g c =
    let does = rw c.deref.ensures at c.doing_block.ensures.does in
    rw c.in-Block.is (runs_within does)

pub conditioned-requires-clause-calls : goal.conditioned-requires-clause-calls
conditioned-requires-clause-calls g c =
    (condition_stop (spaced_before c.args.behind.now.line.value c.args.behind.now.at) _ (rw c.in-Condition.is at c.requires)).1

pub conditioned-requires-clause-stepped : goal.conditioned-requires-clause-stepped
conditioned-requires-clause-stepped g c =
    (condition_stop (spaced_before c.args.behind.now.line.value c.args.behind.now.at) _ (rw c.in-Condition.is at c.requires)).2

pub returns-in-Condition-clause-does : goal.returns-in-Condition-clause-does
returns-in-Condition-clause-does g c =
    let there = condition_stop (spaced_before c.args.behind.now.line.value c.args.behind.now.at) _ (rw c.in-Condition.is at c.requires) in
    let does = rw there.0 at c.conditioned.ensures.does in
    rw c.in-Condition.is does

pub returns-in-Condition-clause-within : goal.returns-in-Condition-clause-within
returns-in-Condition-clause-within g c = λ h. absurd (rw c.in-Condition.is at h)

pub returns-in-Argument-clause-falls : goal.returns-in-Argument-clause-falls
returns-in-Argument-clause-falls g c =
    let fits = most_ahead c.in-Argument.entrance in
    falls_within _ _ _ c.enter_argument.result (omega (arith, fits)) c.enter_argument.ensures.falls

pub returns-in-Argument-clause-within : goal.returns-in-Argument-clause-within
returns-in-Argument-clause-within g c = λ h. rw c.in-Argument.is c.enter_argument.ensures.falls

pub returns-in-Loop-clause-within : goal.returns-in-Loop-clause-within
returns-in-Loop-clause-within g c = λ h. rw c.in-Loop.is (falls_within _ _ _ c.next_parameter.result (omega arith) c.next_parameter.ensures.falls)

pub returns-in-Turns-clause-within : goal.returns-in-Turns-clause-within
returns-in-Turns-clause-within g c = λ h. rw c.in-Turns.is (falls_within _ _ _ c.forever.result (omega arith) c.forever.ensures.falls)

pub returns-in-Block-clause-within : goal.returns-in-Block-clause-within
returns-in-Block-clause-within g c = λ h. rw c.in-Block.is (falls_within _ _ _ c.doing_block.result (omega arith) c.doing_block.ensures.falls)
