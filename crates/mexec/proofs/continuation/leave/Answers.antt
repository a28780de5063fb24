-- SPDX-License-Identifier: Apache-2.0
use Rattle.mexec.proofs.ExecLaws.{◌≤◌, ◌<◌, length, refl, arith, none_left, stack_push, some_item, size_push}
use Rattle.mexec.proofs.continuation.leave.Goals as goal

pub returns-then-rest-len-clause-frames : goal.returns-then-rest-len-clause-frames
returns-then-rest-len-clause-frames c =
    let v = c.args.rest.now.line.value.commands in
    let h = rw (c.len.ensures, c.deref.ensures) at c.if-rest-len.true in
    let past : length v.items ≤ c.args.rest.now.at = omega (arith, h, v.ok) in
    rw (none_left c.args.rest.now.at v.items past) refl

pub returns-clause-frames : goal.returns-clause-frames
returns-clause-frames c =
    let v = c.args.rest.now.line.value.commands in
    let h = rw (c.len.ensures, c.deref.ensures) at c.if-rest-len.false in
    let less : c.args.rest.now.at < length v.items = omega (arith, h, v.ok) in
    let some = some_item c.args.rest.now.at v.items less in
    rw (c.in_ok-push.ensures.items, stack_push, c.in_ok-rest.ensures.position, c.in_ok-rest.ensures.line, c.in_ok-rest.ensures.at, some.1) refl

pub returns-clause-most : goal.returns-clause-most
returns-clause-most c = rw (c.in_ok-push.ensures.items, size_push) (omega arith)
