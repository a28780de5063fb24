-- SPDX-License-Identifier: Apache-2.0
use Rattle.mparse.proofs.ParseWords.{◌≡◌, ◌++◌, ◌∷◌, [], length, map, rules, err_from_is_err_and, map_push, spaced_tree, many, spaced_at, goes_on, stops}
use Rattle.mparse.proofs.ParseWords.{is_done, fails}
use Rattle.mparse.proofs.line.commands.Goals as goal
use Rattle.mparse.proofs.line.commands.Goals.{else-loop-test, then-loop-test+in_ok-item+in_default}

pub returns-in_err-item : goal.returns-in_err-item
returns-in_err-item c =
    let p = err_from_is_err_and c.from_residual.result c.from_residual.ensures.1 in
    rw (p.1, p.2) (fails spaced_at c.in_err-item.field-0.0 (map spaced_tree c.loop.all.items) (length c.args.bytes.now) c.loop.counter c.loop.rest.now
    (many spaced_at (length c.args.bytes.now) c.args.bytes.now) c.loop-test.true c.in_err-item.ensures c.loop.invariant)

pub loop-preserved : goal.loop-preserved
loop-preserved c =
    let e : map spaced_tree c.push.new.self.items ≡ map spaced_tree c.loop.all.items ++ spaced_tree c.in-Some.item ∷ [] = rw c.in_ok-push.ensures.items (map_push _ c.loop.all.items c.in-Some.item) in
    rw e (goes_on spaced_at (map spaced_tree c.loop.all.items) (length c.args.bytes.now) c.loop.counter c.loop.rest.now (spaced_tree c.in-Some.item) c.in-Some.after.now
    (many spaced_at (length c.args.bytes.now) c.args.bytes.now) c.loop-test.true (rw c.in-Some.is at c.in_ok-item.ensures) c.loop.invariant)

pub returns : goal.returns
returns c =
    elim c.loop-test.branch [
      | else-loop-test w ↦ is_done spaced_at (map spaced_tree c.loop.all.items) (length c.args.bytes.now) c.loop.counter c.loop.rest.now
          (many spaced_at (length c.args.bytes.now) c.args.bytes.now) w.loop-test.false c.loop.invariant
      | then-loop-test+in_ok-item+in_default w ↦ stops spaced_at (map spaced_tree c.loop.all.items) (length c.args.bytes.now) c.loop.counter c.loop.rest.now
          (many spaced_at (length c.args.bytes.now) c.args.bytes.now) w.loop-test.true (search rules) c.loop.invariant
    ]
