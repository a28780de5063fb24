-- SPDX-License-Identifier: Apache-2.0
use Rattle.mparse.proofs.ParseWords.{length, sym, rules, many, dot_at, dots_at, goes_on, stops, is_done}
use Rattle.mparse.proofs.routine_line.dots.Goals as goal
use Rattle.mparse.proofs.routine_line.dots.Goals.{else-loop-test, then-loop-test+in_default}

pub loop-preserved : goal.loop-preserved
loop-preserved c =
    rw c.in_ok-push.ensures.items (goes_on dot_at c.loop.all.items (length c.args.bytes.now) c.loop.counter c.loop.rest.now c.in-Some.spaces c.in-Some.after.now
    (many dot_at (length c.args.bytes.now) c.args.bytes.now) c.loop-test.true (sym (rw c.in-Some.is at c.dot.ensures)) c.loop.invariant)

pub returns : goal.returns
unfolding dots_at
returns c =
    elim c.loop-test.branch [
      | else-loop-test w ↦ is_done dot_at c.loop.all.items (length c.args.bytes.now) c.loop.counter c.loop.rest.now
          (many dot_at (length c.args.bytes.now) c.args.bytes.now) w.loop-test.false c.loop.invariant
      | then-loop-test+in_default w ↦ stops dot_at c.loop.all.items (length c.args.bytes.now) c.loop.counter c.loop.rest.now
          (many dot_at (length c.args.bytes.now) c.args.bytes.now) w.loop-test.true (search rules) c.loop.invariant
    ]
