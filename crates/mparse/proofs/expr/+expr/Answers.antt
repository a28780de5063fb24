-- SPDX-License-Identifier: Apache-2.0
use Rattle.mparse.proofs.ParseWords.{◌≡◌, ◌++◌, ◌∷◌, [], length, map, refl, sym, rules, err_from_is_err_and, map_push, expr_tree, tail_tree, choice_tree}
use Rattle.mparse.proofs.ParseWords.{actual_tree, with_front, many, after_comma, list_at, choice_with, tail_with, readers_at, inner_at, goes_on, stops, is_done}
use Rattle.mparse.proofs.ParseWords.{list_begins, comma_goes_on, comma_stops, fails, list_fails, comma_fails}
use Rattle.mparse.proofs.Lists.{list_goes_on}
use Rattle.mparse.proofs.expr.+expr.Goals as goal
use Rattle.mparse.proofs.expr.+expr.Goals.{tails-else-loop-test, tails-then-loop-test+in_ok-tail+in_default, more_exprs-else-loop-test}
use Rattle.mparse.proofs.expr.+expr.Goals.{more_exprs-then-loop-test+in_default, choices-else-loop-test, choices-then-loop-test+in_default}
use Rattle.mparse.proofs.expr.+expr.Goals.{some_actuals-else-loop-test, some_actuals-then-loop-test+in_default}

pub tails-returns-in_err-tail : goal.tails-returns-in_err-tail
tails-returns-in_err-tail t c =
    let p = err_from_is_err_and c.from_residual.result c.from_residual.ensures.1 in
    rw (p.1, p.2) (fails (tail_with (readers_at c.args.depth)) c.in_err-tail.field-0.0 (map tail_tree c.loop.tails.items) (length c.args.bytes.now) c.loop.counter c.loop.rest.now
    (many (tail_with (readers_at c.args.depth)) (length c.args.bytes.now) c.args.bytes.now) c.loop-test.true c.in_err-tail.ensures c.loop.invariant)

pub tails-loop-preserved : goal.tails-loop-preserved
tails-loop-preserved t c =
    let e : map tail_tree c.push.new.self.items ≡ map tail_tree c.loop.tails.items ++ tail_tree c.in-Some.tail ∷ [] = rw c.in_ok-push.ensures.items (map_push _ c.loop.tails.items c.in-Some.tail) in
    rw e (goes_on (tail_with (readers_at c.args.depth)) (map tail_tree c.loop.tails.items) (length c.args.bytes.now) c.loop.counter c.loop.rest.now (tail_tree c.in-Some.tail) c.in-Some.after.now
    (many (tail_with (readers_at c.args.depth)) (length c.args.bytes.now) c.args.bytes.now) c.loop-test.true (rw c.in-Some.is at c.in_ok-tail.ensures) c.loop.invariant)

pub tails-returns : goal.tails-returns
tails-returns t c =
    elim c.loop-test.branch [
      | tails-else-loop-test w ↦ is_done (tail_with (readers_at c.args.depth)) (map tail_tree c.loop.tails.items) (length c.args.bytes.now) c.loop.counter c.loop.rest.now
          (many (tail_with (readers_at c.args.depth)) (length c.args.bytes.now) c.args.bytes.now) w.loop-test.false c.loop.invariant
      | tails-then-loop-test+in_ok-tail+in_default w ↦ stops (tail_with (readers_at c.args.depth)) (map tail_tree c.loop.tails.items) (length c.args.bytes.now) c.loop.counter c.loop.rest.now
          (many (tail_with (readers_at c.args.depth)) (length c.args.bytes.now) c.args.bytes.now) w.loop-test.true (search rules) c.loop.invariant
    ]

pub exprs-returns-in_err-first : goal.exprs-returns-in_err-first
exprs-returns-in_err-first t c =
    let p = err_from_is_err_and c.from_residual.result c.from_residual.ensures.1 in
    rw (p.1, p.2) (list_fails (inner_at c.args.depth) c.in_err-first.field-0.0 c.args.bytes.now c.in_err-first.ensures)

pub exprs-returns : goal.exprs-returns
exprs-returns t c =
    let first = expr_tree c.in_ok-first.first in
    let rest = c.in_ok-first.rest.now in
    let e : map expr_tree c.push.new.self.items ≡ first ∷ [] = rw (c.in_ok-push.ensures.items, c.new-all.ensures.items) refl in
    let begun : with_front (map expr_tree c.push.new.self.items) (many (after_comma (inner_at c.args.depth)) (length rest) rest) ≡ list_at (inner_at c.args.depth) c.args.bytes.now =
    rw e (list_goes_on (inner_at c.args.depth) c.args.bytes.now first rest c.in_ok-first.ensures) in
    rw (sym begun) c.more_exprs.ensures

pub more_exprs-returns-in_err-item : goal.more_exprs-returns-in_err-item
more_exprs-returns-in_err-item t c =
    let total = with_front (map expr_tree c.args.front.items) (many (after_comma (inner_at c.args.depth)) (length c.args.bytes.now) c.args.bytes.now) in
    let p = err_from_is_err_and c.from_residual.result c.from_residual.ensures.1 in
    rw (p.1, p.2) (comma_fails (inner_at c.args.depth) c.in_err-item.field-0.0 (map expr_tree c.loop.all.items) (length c.args.bytes.now) c.loop.counter c.loop.rest.now c.in-Some.behind.now
    total c.loop-test.true (search rules) c.in_err-item.ensures c.loop.invariant)

pub more_exprs-loop-preserved : goal.more_exprs-loop-preserved
more_exprs-loop-preserved t c =
    let total = with_front (map expr_tree c.args.front.items) (many (after_comma (inner_at c.args.depth)) (length c.args.bytes.now) c.args.bytes.now) in
    let e : map expr_tree c.push.new.self.items ≡ map expr_tree c.loop.all.items ++ expr_tree c.in_ok-item.item ∷ [] = rw c.in_ok-push.ensures.items (map_push _ c.loop.all.items c.in_ok-item.item) in
    rw e (comma_goes_on (inner_at c.args.depth) (map expr_tree c.loop.all.items) (length c.args.bytes.now) c.loop.counter c.loop.rest.now c.in-Some.behind.now (expr_tree c.in_ok-item.item) c.in_ok-item.after.now
    total c.loop-test.true (search rules) c.in_ok-item.ensures c.loop.invariant)

pub more_exprs-returns : goal.more_exprs-returns
more_exprs-returns t c =
    let total = with_front (map expr_tree c.args.front.items) (many (after_comma (inner_at c.args.depth)) (length c.args.bytes.now) c.args.bytes.now) in
    elim c.loop-test.branch [
      | more_exprs-else-loop-test w ↦ is_done (after_comma (inner_at c.args.depth)) (map expr_tree c.loop.all.items) (length c.args.bytes.now) c.loop.counter c.loop.rest.now total w.loop-test.false c.loop.invariant
      | more_exprs-then-loop-test+in_default w ↦ comma_stops (inner_at c.args.depth) (map expr_tree c.loop.all.items) (length c.args.bytes.now) c.loop.counter c.loop.rest.now total w.loop-test.true (search rules) c.loop.invariant
    ]

pub choices-returns-in_err-first : goal.choices-returns-in_err-first
choices-returns-in_err-first t c =
    let p = err_from_is_err_and c.from_residual.result c.from_residual.ensures.1 in
    rw (p.1, p.2) (list_fails (choice_with (readers_at c.args.depth)) c.in_err-first.field-0.0 c.args.bytes.now c.in_err-first.ensures)

pub choices-loop-init : goal.choices-loop-init
choices-loop-init t c =
    let e : map choice_tree c.push.new.self.items ≡ choice_tree c.in_ok-first.first ∷ [] = rw (c.in_ok-push.ensures.items, c.new-all.ensures.items) refl in
    rw e (list_begins (choice_with (readers_at c.args.depth)) c.args.bytes.now (choice_tree c.in_ok-first.first) c.in_ok-first.start.now c.in_ok-first.ensures)

pub choices-returns-in_err-item : goal.choices-returns-in_err-item
choices-returns-in_err-item t c =
    let p = err_from_is_err_and c.from_residual-in_err-item.result c.from_residual-in_err-item.ensures.1 in
    rw (p.1, p.2) (comma_fails (choice_with (readers_at c.args.depth)) c.in_err-item.field-0.0 (map choice_tree c.loop.all.items) (length c.in_ok-first.start.now) c.loop.counter c.loop.rest.now c.in-Some.behind.now
    (list_at (choice_with (readers_at c.args.depth)) c.args.bytes.now) c.loop-test.true (search rules) c.in_err-item.ensures c.loop.invariant)

pub choices-loop-preserved : goal.choices-loop-preserved
choices-loop-preserved t c =
    let e : map choice_tree c.push-in-loop.new.self.items ≡ map choice_tree c.loop.all.items ++ choice_tree c.in_ok-item.item ∷ [] = rw c.in_ok-push-2.ensures.items (map_push _ c.loop.all.items c.in_ok-item.item) in
    rw e (comma_goes_on (choice_with (readers_at c.args.depth)) (map choice_tree c.loop.all.items) (length c.in_ok-first.start.now) c.loop.counter c.loop.rest.now c.in-Some.behind.now (choice_tree c.in_ok-item.item) c.in_ok-item.after.now
    (list_at (choice_with (readers_at c.args.depth)) c.args.bytes.now) c.loop-test.true (search rules) c.in_ok-item.ensures c.loop.invariant)

pub choices-returns : goal.choices-returns
choices-returns t c =
    elim c.loop-test.branch [
      | choices-else-loop-test w ↦ is_done (after_comma (choice_with (readers_at c.args.depth))) (map choice_tree c.loop.all.items) (length c.in_ok-first.start.now) c.loop.counter c.loop.rest.now (list_at (choice_with (readers_at c.args.depth)) c.args.bytes.now) w.loop-test.false c.loop.invariant
      | choices-then-loop-test+in_default w ↦ comma_stops (choice_with (readers_at c.args.depth)) (map choice_tree c.loop.all.items) (length c.in_ok-first.start.now) c.loop.counter c.loop.rest.now (list_at (choice_with (readers_at c.args.depth)) c.args.bytes.now) w.loop-test.true (search rules) c.loop.invariant
    ]

pub some_actuals-returns-in_err-first : goal.some_actuals-returns-in_err-first
some_actuals-returns-in_err-first t c =
    let p = err_from_is_err_and c.from_residual.result c.from_residual.ensures.1 in
    rw (p.1, p.2) (list_fails ((readers_at c.args.depth).handed) c.in_err-first.field-0.0 c.args.bytes.now c.in_err-first.ensures)

pub some_actuals-loop-init : goal.some_actuals-loop-init
some_actuals-loop-init t c =
    let e : map actual_tree c.push.new.self.items ≡ actual_tree c.in_ok-first.first ∷ [] = rw (c.in_ok-push.ensures.items, c.new-all.ensures.items) refl in
    rw e (list_begins ((readers_at c.args.depth).handed) c.args.bytes.now (actual_tree c.in_ok-first.first) c.in_ok-first.start.now c.in_ok-first.ensures)

pub some_actuals-returns-in_err-item : goal.some_actuals-returns-in_err-item
some_actuals-returns-in_err-item t c =
    let p = err_from_is_err_and c.from_residual-in_err-item.result c.from_residual-in_err-item.ensures.1 in
    rw (p.1, p.2) (comma_fails ((readers_at c.args.depth).handed) c.in_err-item.field-0.0 (map actual_tree c.loop.all.items) (length c.in_ok-first.start.now) c.loop.counter c.loop.rest.now c.in-Some.behind.now
    (list_at ((readers_at c.args.depth).handed) c.args.bytes.now) c.loop-test.true (search rules) c.in_err-item.ensures c.loop.invariant)

pub some_actuals-loop-preserved : goal.some_actuals-loop-preserved
some_actuals-loop-preserved t c =
    let e : map actual_tree c.push-in-loop.new.self.items ≡ map actual_tree c.loop.all.items ++ actual_tree c.in_ok-item.item ∷ [] = rw c.in_ok-push-2.ensures.items (map_push _ c.loop.all.items c.in_ok-item.item) in
    rw e (comma_goes_on ((readers_at c.args.depth).handed) (map actual_tree c.loop.all.items) (length c.in_ok-first.start.now) c.loop.counter c.loop.rest.now c.in-Some.behind.now (actual_tree c.in_ok-item.item) c.in_ok-item.after.now
    (list_at ((readers_at c.args.depth).handed) c.args.bytes.now) c.loop-test.true (search rules) c.in_ok-item.ensures c.loop.invariant)

pub some_actuals-returns : goal.some_actuals-returns
some_actuals-returns t c =
    elim c.loop-test.branch [
      | some_actuals-else-loop-test w ↦ is_done (after_comma ((readers_at c.args.depth).handed)) (map actual_tree c.loop.all.items) (length c.in_ok-first.start.now) c.loop.counter c.loop.rest.now (list_at ((readers_at c.args.depth).handed) c.args.bytes.now) w.loop-test.false c.loop.invariant
      | some_actuals-then-loop-test+in_default w ↦ comma_stops ((readers_at c.args.depth).handed) (map actual_tree c.loop.all.items) (length c.in_ok-first.start.now) c.loop.counter c.loop.rest.now (list_at ((readers_at c.args.depth).handed) c.args.bytes.now) w.loop-test.true (search rules) c.loop.invariant
    ]
