-- SPDX-License-Identifier: Apache-2.0
use Rattle.mgrant.proofs.GrantWords.{◌≡◌, ◌<◌, ◌≤◌, length, get_or, sym, subst, ◌∙◌, arith, get_or_default, count_by-le-length, Leads}
use Rattle.mgrant.proofs.Marks.{leads_on, turn_closed, spread_all}
use Rattle.mgrant.proofs.flow.spread.Goals as goal

pub loop-turn-preserved : goal.loop-turn-preserved
loop-turn-preserved c =
    let edges = c.args.edges.now in
    let order = c.loop-turn.order.items in
    let turn = c.loop-turn.turn in
    let place = c.index-place.result.now in
    let within : turn < length order = omega arith in
    let at : get_or order turn 0 ≡ place = get_or_default order turn 0 place within ∙ sym c.index-place.ensures in
    let told = c.in_ok-mark_targets.ensures in
    let grown = told.more.grown in
    record {
      stage = λ start old.
          let stage = c.loop-turn.invariant.stage start old in
          told.stage edges start stage (λ k d inside. leads_on edges (subst (Leads edges start) at (stage.reached turn 0 within)) (c.steps_from.ensures.from k d inside));
      closed = turn_closed edges c.steps_from.result.now place turn c.loop-turn.marks.items c.mark_targets.new.marks.items order c.mark_targets.new.order.items within at told.more c.steps_from.ensures.each told.marked c.loop-turn.invariant.closed;
      turned = omega arith;
      len = c.mark_targets.ensures.len ∙ c.loop-turn.invariant.len;
    }

pub returns-after-loop-turn-clause-reached : goal.returns-after-loop-turn-clause-reached
returns-after-loop-turn-clause-reached c = λ start old.
    let stage = c.loop-turn.invariant.stage start old in
    let counted = stage.counted in
    let most = count_by-le-length (λ b. b) c.loop-turn.marks.items in
    let len = c.loop-turn.invariant.len in
    let done : length c.loop-turn.order.items ≤ c.loop-turn.turn = omega arith in
    spread_all c.args.edges.now start c.loop-turn.marks.items c.loop-turn.order.items c.loop-turn.turn stage done c.loop-turn.invariant.closed

pub returns-then-turn-len-clause-reached : goal.returns-then-turn-len-clause-reached
returns-then-turn-len-clause-reached c = λ start old.
    let done : length c.loop-turn.order.items ≤ c.loop-turn.turn = omega arith in
    spread_all c.args.edges.now start c.loop-turn.marks.items c.loop-turn.order.items c.loop-turn.turn (c.loop-turn.invariant.stage start old) done c.loop-turn.invariant.closed
