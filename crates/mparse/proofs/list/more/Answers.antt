-- SPDX-License-Identifier: Apache-2.0
use Rattle.mparse.proofs.ParseWords.{◌≡◌, ◌-◌, ◌++◌, ◌∷◌, [], length, map, refl, arith, rules, err_from_is_err_and, map_push, with_front, many, after_comma}
use Rattle.mparse.proofs.ParseWords.{is_done, comma_goes_on, comma_stops, comma_fails}
use Rattle.mparse.proofs.list.more.Goals as goal
use Rattle.mparse.proofs.list.more.Goals.{else-loop-test, then-loop-test+in_default}

pub loop-init : goal.loop-init
loop-init g c =
    let all : length c.args.bytes.now - 0 ≡ length c.args.bytes.now = omega arith in
    rw all refl

pub returns-in_err-item : goal.returns-in_err-item
returns-in_err-item g c =
    let read = g.T.Items.read c.args.items in
    let p = err_from_is_err_and c.from_residual.result c.from_residual.ensures.1 in
    let total = with_front (map (g.T.Items.tree) c.args.front.items) (many (after_comma read) (length c.args.bytes.now) c.args.bytes.now) in
    rw (p.1, p.2) (comma_fails read c.in_err-item.field-0.0 (map (g.T.Items.tree) c.loop.all.items) (length c.args.bytes.now)
    c.loop.counter c.loop.rest.now c.in-Some.behind.now total c.loop-test.true (search rules) c.in_err-item.ensures c.loop.invariant)

pub loop-preserved : goal.loop-preserved
loop-preserved g c =
    let read = g.T.Items.read c.args.items in
    let front = map (g.T.Items.tree) c.loop.all.items in
    let item = g.T.Items.tree c.in_ok-item.item in
    let total = with_front (map (g.T.Items.tree) c.args.front.items) (many (after_comma read) (length c.args.bytes.now) c.args.bytes.now) in
    let e : map (g.T.Items.tree) c.push.new.self.items ≡ front ++ item ∷ [] = rw c.in_ok-push.ensures.items (map_push _ c.loop.all.items c.in_ok-item.item) in
    rw e (comma_goes_on read front (length c.args.bytes.now) c.loop.counter c.loop.rest.now c.in-Some.behind.now item c.in_ok-item.after.now
    total c.loop-test.true (search rules) c.in_ok-item.ensures c.loop.invariant)

pub returns : goal.returns
returns g c =
    let read = g.T.Items.read c.args.items in
    let all = map (g.T.Items.tree) c.loop.all.items in
    let count = length c.args.bytes.now in
    let total = with_front (map (g.T.Items.tree) c.args.front.items) (many (after_comma read) (length c.args.bytes.now) c.args.bytes.now) in
    elim c.loop-test.branch [
      | else-loop-test w ↦ is_done (after_comma read) all count c.loop.counter c.loop.rest.now total w.loop-test.false c.loop.invariant
      | then-loop-test+in_default w ↦ comma_stops read all count c.loop.counter c.loop.rest.now total w.loop-test.true (search rules) c.loop.invariant
    ]
