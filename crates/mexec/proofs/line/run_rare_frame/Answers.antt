-- SPDX-License-Identifier: Apache-2.0
use Rattle.mexec.proofs.ExecLaws.{map, drop, arith, arg_tree, position_of, rest_tree, list_passes, condition_fails, falls_off, falls_off_program}
use Rattle.mexec.specs.Frames.{args_before, command_in, spaced_before}
use Rattle.mexec.proofs.line.run_rare_frame.Goals as goal

pub returns-in-GoOn-clause-does : goal.returns-in-GoOn-clause-does
returns-in-GoOn-clause-does g c = rw (c.in-PendingArguments.is, c.in-GoOn.is) c.arguments.ensures.does

pub returns-in-PendingArguments : goal.returns-in-PendingArguments
returns-in-PendingArguments g c =
    let l = c.in-PendingArguments.list in
    record {
      falls = rw c.in-PendingArguments.is (omega arith);
      does =
          rw c.in-PendingArguments.is
          (list_passes (position_of l.behind.position.value) (map arg_tree (drop l.argument (args_before l.behind.line.value l.behind.at)))
          c.args.completion c.in_default.not-GoOn);
    }

pub returns-in-GoOn-completion-clause-does : goal.returns-in-GoOn-completion-clause-does
returns-in-GoOn-completion-clause-does g c = rw (c.in-IndirectArguments.is, c.in-GoOn-completion.is) c.arguments-in-GoOn-completion.ensures.does

pub returns-in-IndirectArguments : goal.returns-in-IndirectArguments
returns-in-IndirectArguments g c =
    let given = c.in-IndirectArguments.given.value in
    record {
      falls = rw c.in-IndirectArguments.is (omega arith);
      does =
          rw c.in-IndirectArguments.is
          (list_passes (position_of given.position) (map arg_tree (drop c.in-IndirectArguments.argument given.args.items))
          c.args.completion c.in_default-completion.not-GoOn);
    }

pub returns-in-Program-clause-does : goal.returns-in-Program-clause-does
returns-in-Program-clause-does g c = rw c.in-Program.is c.after_call.ensures.does

pub returns-in-GoOn-completion-2-clause-does : goal.returns-in-GoOn-completion-2-clause-does
returns-in-GoOn-completion-2-clause-does g c = rw (c.in-Condition.is, c.in-GoOn-completion-2.is) c.held.ensures.does

pub returns-in-Condition : goal.returns-in-Condition
returns-in-Condition g c =
    let behind = c.in-Condition.behind in
    record {
      falls = rw c.in-Condition.is (omega arith);
      does =
          rw c.in-Condition.is
          (condition_fails (position_of behind.position.value) (command_in (spaced_before behind.line.value behind.at)) (rest_tree behind)
          c.args.completion c.in_default-completion-2.not-GoOn);
    }

pub returns-in-GoOn-clause-falls : goal.returns-in-GoOn-clause-falls
returns-in-GoOn-clause-falls g c = rw c.in-PendingArguments.is (falls_off _ _ c.arguments.result c.arguments.ensures.falls)

pub returns-in-GoOn-completion-clause-falls : goal.returns-in-GoOn-completion-clause-falls
returns-in-GoOn-completion-clause-falls g c =
    rw c.in-IndirectArguments.is (falls_off _ _ c.arguments-in-GoOn-completion.result c.arguments-in-GoOn-completion.ensures.falls)

pub returns-in-Program-clause-falls : goal.returns-in-Program-clause-falls
returns-in-Program-clause-falls g c = rw c.in-Program.is (falls_off_program _ _ c.after_call.result c.after_call.ensures.falls)

pub returns-in-GoOn-completion-2-clause-falls : goal.returns-in-GoOn-completion-2-clause-falls
returns-in-GoOn-completion-2-clause-falls g c = rw c.in-Condition.is (falls_off _ _ c.held.result c.held.ensures.falls)
