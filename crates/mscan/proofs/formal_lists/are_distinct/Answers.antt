-- SPDX-License-Identifier: Apache-2.0
use Rattle.std.proofs.Common.{◌≡◌, ◌-◌, length, Some, None, sym, ◌∙◌}
use Rattle.mscan.specs.Formals.{next_name}
use Rattle.mscan.proofs.ListedNames.{repeated, not_repeated, alone, none_met, all_met}
use Rattle.mscan.proofs.formal_lists.are_distinct.Goals as goal

pub returns-then-is_among : goal.returns-then-is_among
returns-then-is_among c =
    sym (repeated c.loop.name.now c.loop.rest.now (length c.args.bytes.now - c.loop.counter) c.loop.invariant.0 (sym c.is_among.ensures ∙ c.if-is_among.true)) ∙ c.loop.invariant.1

pub loop-preserved : goal.loop-preserved
loop-preserved c =
    let next : next_name c.loop.rest.now ≡ Some (c.in-Some.next.now, c.in-Some.after.now) = sym (rw c.in-Some.is at c.next_name.ensures.name) in
    let u = not_repeated c.loop.name.now c.loop.rest.now (length c.args.bytes.now) c.loop.counter c.in-Some.next.now c.in-Some.after.now c.loop-test.true c.loop.invariant.0 next (sym c.is_among.ensures ∙ c.if-is_among.false) in
    (u.0, sym u.1 ∙ c.loop.invariant.1)

pub returns-after-loop : goal.returns-after-loop
returns-after-loop c =
    sym (alone c.loop.name.now c.loop.rest.now (length c.args.bytes.now - c.loop.counter) (all_met (length c.args.bytes.now) c.loop.counter c.loop.rest.now c.loop-test.false)) ∙ c.loop.invariant.1

pub returns-in_default : goal.returns-in_default
returns-in_default c =
    let none : next_name c.loop.rest.now ≡ None = sym (rw c.in_default.is at c.next_name.ensures.name) in
    sym (alone c.loop.name.now c.loop.rest.now (length c.args.bytes.now - c.loop.counter) (none_met (length c.args.bytes.now - c.loop.counter) c.loop.rest.now none)) ∙ c.loop.invariant.1
