-- SPDX-License-Identifier: Apache-2.0
use Rattle.mglobal.proofs.GlobalWords.{◌≡◌, ◌<◌, false, [], length, ap, sym, subst, ◌∙◌, arith, nat_tests, key_bytes, subtree_end, NoneEmpty}
use Rattle.mglobal.proofs.GlobalWords.{significant_digits, front, last, way, no_list, whole, BoundsOnward}
use Rattle.mglobal.proofs.Sides.{child_at, some_each, bounds_all, bounds_behind, bounds_before, whole_is}
use Rattle.mglobal.proofs.bounds.bounds.Goals as goal
use Rattle.mglobal.proofs.bounds.bounds.Goals.{After-is_empty, After-last, In_ok-present}

above_some : (c : After-last) → NoneEmpty c.args.above.now.subscripts
above_some c = subst (λ n. NoneEmpty n.subscripts) (sym c.requires.above) (some_each (front c.args.subs.now) c.requires.subs.before)

last_some : (c : After-is_empty) → c.is_empty.result ≡ false → 0 < length (last c.args.subs.now)
last_some c e =
    let some : 0 < length c.last.result.now = grind (arith, nat_tests, c.is_empty.ensures, e) in
    subst (λ x. 0 < length x) c.last.ensures some

present_is : (c : In_ok-present) → c.in_ok-present.present ≡ child_at c.args.above.now (last c.args.subs.now)
present_is c = c.in_ok-present.ensures.key ∙ whole_is c.args.account.now c.args.name.now c.args.subs.now c.args.above.now c.requires.subs.some c.requires.above

pub returns-then-is_empty-clause-bounds : goal.returns-then-is_empty-clause-bounds
returns-then-is_empty-clause-bounds c =
    let subs = c.args.subs.now in
    let none : last subs ≡ [] = sym c.last.ensures ∙ no_list c.last.result.now (grind (arith, nat_tests, c.is_empty.ensures, c.if-is_empty.true)) in
    bounds_all c.args.above.now (above_some (goal.at.returns-then-is_empty-clause-bounds c).After-last) (last subs) c.in_ok-low.low.items c.in_ok-low.high.items (way c.args.direction) none c.in_ok-low.ensures.low c.in_ok-low.ensures.high

pub key_of-requires-clause-subs : goal.key_of-requires-clause-subs
key_of-requires-clause-subs c = whole c.args.subs.now c.requires.subs (last_some (goal.at.key_of-requires-clause-subs c).After-is_empty c.if-is_empty.false)

pub returns-in_ok-high-in-Forward-clause-bounds : goal.returns-in_ok-high-in-Forward-clause-bounds
returns-in_ok-high-in-Forward-clause-bounds c =
    let at = goal.at.returns-in_ok-high-in-Forward-clause-bounds c in
    let low = c.in_ok-low-in-Forward.ensures ∙ ap (λ n. subtree_end (key_bytes significant_digits n)) (present_is at.In_ok-present) in
    subst (λ d. BoundsOnward (way d) c.args.above.now (last c.args.subs.now) c.in_ok-low-in-Forward.low.items c.in_ok-high-in-Forward.high.items) (sym c.in-Forward.is)
    (bounds_behind c.args.above.now (above_some at.After-last) (last c.args.subs.now) c.in_ok-low-in-Forward.low.items c.in_ok-high-in-Forward.high.items (last_some at.After-is_empty c.if-is_empty.false) low c.in_ok-high-in-Forward.ensures.bytes)

pub returns-in_ok-low-in-Backward-clause-bounds : goal.returns-in_ok-low-in-Backward-clause-bounds
returns-in_ok-low-in-Backward-clause-bounds c =
    let at = goal.at.returns-in_ok-low-in-Backward-clause-bounds c in
    let high = c.into_bytes-high.ensures ∙ ap (key_bytes significant_digits) (present_is at.In_ok-present) in
    subst (λ d. BoundsOnward (way d) c.args.above.now (last c.args.subs.now) c.in_ok-low-in-Backward.low.items c.into_bytes-high.result.items) (sym c.in-Backward.is)
    (bounds_before c.args.above.now (above_some at.After-last) (last c.args.subs.now) c.in_ok-low-in-Backward.low.items c.into_bytes-high.result.items (last_some at.After-is_empty c.if-is_empty.false) c.in_ok-low-in-Backward.ensures high)
