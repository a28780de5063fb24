-- SPDX-License-Identifier: Apache-2.0
use Rattle.std.proofs.Common.{◌≡◌, ◌-◌, length, Some, None, sym, ap, ◌∙◌}
use Rattle.std.specs.List.{list_any}
use Rattle.mspec.specs.Trees.{text_eq}
use Rattle.mscan.specs.Formals.{next_name}
use Rattle.mscan.proofs.ListedNames.{found, passed, none_met, all_met}
use Rattle.mscan.proofs.formal_lists.is_among.Goals as goal

pub returns-then-eq : goal.returns-then-eq
returns-then-eq c =
    let next : next_name c.loop.rest.now ≡ Some (c.in-Some.next.now, c.in-Some.after.now) = sym (rw c.in-Some.is at c.next_name.ensures.name) in
    sym (found (text_eq c.args.name.now) (length c.args.bytes.now) c.loop.counter c.loop.rest.now c.in-Some.next.now c.in-Some.after.now c.loop-test.true next (sym c.eq.ensures ∙ c.if-eq.true)) ∙ c.loop.invariant

pub loop-preserved : goal.loop-preserved
loop-preserved c =
    let next : next_name c.loop.rest.now ≡ Some (c.in-Some.next.now, c.in-Some.after.now) = sym (rw c.in-Some.is at c.next_name.ensures.name) in
    sym (passed (text_eq c.args.name.now) (length c.args.bytes.now) c.loop.counter c.loop.rest.now c.in-Some.next.now c.in-Some.after.now c.loop-test.true next (sym c.eq.ensures ∙ c.if-eq.false)) ∙ c.loop.invariant

pub returns-after-loop : goal.returns-after-loop
returns-after-loop c =
    sym (ap (list_any (text_eq c.args.name.now)) (all_met (length c.args.bytes.now) c.loop.counter c.loop.rest.now c.loop-test.false)) ∙ c.loop.invariant

pub returns-in_default : goal.returns-in_default
returns-in_default c =
    let none : next_name c.loop.rest.now ≡ None = sym (rw c.in_default.is at c.next_name.ensures.name) in
    sym (ap (list_any (text_eq c.args.name.now)) (none_met (length c.args.bytes.now - c.loop.counter) c.loop.rest.now none)) ∙ c.loop.invariant
