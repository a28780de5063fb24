-- SPDX-License-Identifier: Apache-2.0
use Rattle.mexec.proofs.ExecLaws.{◌<◌, length, refl, arith, source_args, stack_push, some_item, size_push, lists_weigh}
use Rattle.mexec.proofs.source.Source.leave.Goals as goal

pub returns-clause-frames : goal.returns-clause-frames
returns-clause-frames c =
    let all = source_args c.args.self in
    let h = rw c.all.ensures at c.if-argument-all.false in
    let less : c.args.argument < length all = omega (arith, h) in
    let some = some_item c.args.argument all less in
    rw (c.in_ok-push.ensures.items, stack_push, c.in_ok-frame.ensures, some.1) refl

pub returns-clause-most : goal.returns-clause-most
returns-clause-most c =
    let one = lists_weigh _ _ _ c.in_ok-frame.ensures in
    rw (c.in_ok-push.ensures.items, size_push, one) (omega arith)
