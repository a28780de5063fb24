-- SPDX-License-Identifier: Apache-2.0
use Rattle.mexec.proofs.ExecLaws.{[], suc, sym, context, arg_tree, position_of, at_as, one_more, plain_ahead, spent_ahead, started_without}
use Rattle.mexec.specs.Arguments.{started_plainly}
use Rattle.mexec.proofs.arguments.argument_begun.Goals as goal

pub program_begun-requires-clause-calls : goal.program_begun-requires-clause-calls
program_begun-requires-clause-calls g c = let has = rw c.if-calls_in_argument.true at c.calls_in_argument.ensures in sym has

pub argument-requires : goal.argument-requires
argument-requires g c = let none = rw c.if-calls_in_argument.false at c.calls_in_argument.ensures in sym none

pub returns-else-calls_in_argument-clause-does : goal.returns-else-calls_in_argument-clause-does
returns-else-calls_in_argument-clause-does g c =
    let none = rw c.if-calls_in_argument.false at c.calls_in_argument.ensures in
    at_as (λ a n. started_without (context a (suc n) (position_of c.args.position.now)) (arg_tree c.args.arg.now) (sym none))
    (one_more (λ a n. started_plainly (context a n (position_of c.args.position.now)) (arg_tree c.args.arg.now)) c.argument.ensures.does)

pub returns-else-calls_in_argument-clause-enters : goal.returns-else-calls_in_argument-clause-enters
returns-else-calls_in_argument-clause-enters g c = λ args at there. c.argument.ensures.enters args at

pub returns-then-calls_in_argument-clause-ahead : goal.returns-then-calls_in_argument-clause-ahead
returns-then-calls_in_argument-clause-ahead g c = spent_ahead _ _ c.program_begun.result c.program_begun.ensures.spent

pub returns-else-calls_in_argument-clause-ahead : goal.returns-else-calls_in_argument-clause-ahead
returns-else-calls_in_argument-clause-ahead g c = plain_ahead _ _ c.argument.result c.argument.ensures.does.keeps.eval.fewer (c.argument.ensures.enters [] 0)
