-- SPDX-License-Identifier: Apache-2.0
use Rattle.mlock.proofs.LockWords.{◌≡◌, ◌-◌, ◌<◌, ◌≤◌, length, ap, sym, subst, ◌∙◌, arith, remove, held, released, locks_of}
use Rattle.mlock.proofs.Moves.{place, swap_length, none_swapped, one_released}
use Rattle.mlock.proofs.Views.{released_none}
use Rattle.mlock.proofs.holdings.release.Goals as goal

pub loop-index-smaller-then-holder_at-terminal : goal.loop-index-smaller-then-holder_at-terminal
loop-index-smaller-then-holder_at-terminal c =
    let es = c.loop-index.holdings.entries in
    let inside : c.loop-index.index < length es = subst (λ x. c.loop-index.index < x) c.len.ensures.len c.loop-index-test.true in
    let p = place es c.loop-index.index inside in
    let long = swap_length es c.let_go.new.holdings.entries c.loop-index.index p.0 inside (c.let_go.ensures.entries p.0 p.1) in
    let less : length c.let_go.new.holdings.entries - c.loop-index.index < length es - c.loop-index.index = omega (arith, long, inside) in
    less

pub loop-index-preserved-then-holder_at-terminal :
    goal.loop-index-preserved-then-holder_at-terminal
loop-index-preserved-then-holder_at-terminal c =
    let m = c.loop-index.holdings in
    let t = c.args.terminal in
    let i = c.loop-index.index in
    let inside : i < length m.entries = subst (λ x. i < x) c.len.ensures.len c.loop-index-test.true in
    let p = place m.entries i inside in
    let long = swap_length m.entries c.let_go.new.holdings.entries i p.0 inside (c.let_go.ensures.entries p.0 p.1) in
    let own : p.0.1.terminal ≡ t = sym (c.holder_at.ensures p.0 p.1) ∙ c.if-holder_at-terminal.true in
    record {
      kept = c.let_go.ensures.kept;
      same = one_released (locks_of m) (locks_of c.let_go.new.holdings) (released (locks_of c.args.holdings.now) t) t p.0.0
          (c.let_go.ensures.removed p.0.0 p.0.1 p.1 ∙ ap (λ u. remove (locks_of m) (held u p.0.0)) own) c.loop-index.invariant.same;
      none = none_swapped t m.entries c.let_go.new.holdings.entries i p.0 inside (c.let_go.ensures.entries p.0 p.1) c.loop-index.invariant.none;
      inside = omega (arith, long, inside);
    }

pub returns-clause-released : goal.returns-clause-released
returns-clause-released c =
    let past : length c.loop-index.holdings.entries ≤ c.loop-index.index = subst (λ x. x ≤ c.loop-index.index) c.len.ensures.len c.loop-index-test.false in
    released_none c.loop-index.holdings c.args.terminal c.loop-index.invariant.kept.unique (λ j e inside at. c.loop-index.invariant.none j e (omega (arith, inside, past)) at)
    ∙ c.loop-index.invariant.same
