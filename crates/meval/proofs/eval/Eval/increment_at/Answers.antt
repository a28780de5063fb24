-- SPDX-License-Identifier: Apache-2.0
use Rattle.meval.proofs.EvalLaws.{place_view, put_at, units, refl, evaluates_then, evaluates_stopped, evaluates_gives, evaluates_yielded}
use Rattle.meval.proofs.EvalLaws.{evaluates_wanting, Text, give, ◌>>=◌}
use Rattle.mmeaning.specs.Variables.{increased}
use Rattle.meval.proofs.eval.Eval.increment_at.Goals as goal

pub returns-in_err-old : goal.returns-in_err-old
returns-in_err-old g c =
    evaluates_stopped (λ i old. increased old (units c.args.by) >>= (λ new. put_at (place_view c.args.place.now) new >>= (λ _. give new))) c.in_err-old.ensures
    c.from_residual.ensures

pub returns-in_err-new : goal.returns-in_err-new
returns-in_err-new g c =
    evaluates_then (λ i old. increased old (units c.args.by) >>= (λ new. put_at (place_view c.args.place.now) new >>= (λ _. give new))) c.in_ok-old.ensures
    (evaluates_stopped (λ i new. put_at (place_view c.args.place.now) new >>= (λ _. give new)) (evaluates_yielded c.in_err-new.ensures)
    c.from_residual-in_err-new.ensures)

pub returns-in_err-kept : goal.returns-in_err-kept
returns-in_err-kept g c =
    evaluates_then (λ i old. increased old (units c.args.by) >>= (λ new. put_at (place_view c.args.place.now) new >>= (λ _. give new))) c.in_ok-old.ensures
    (evaluates_then (λ i new. put_at (place_view c.args.place.now) new >>= (λ _. give new)) (evaluates_yielded c.in_ok-new.ensures)
    (evaluates_wanting _ _ _ c.from_residual-in_err-kept.ensures))

pub returns-in_err-put : goal.returns-in_err-put
returns-in_err-put g c =
    let does = rw c.in_ok-kept.ensures at c.in_err-put.ensures in
    evaluates_then (λ i old. increased old (units c.args.by) >>= (λ new. put_at (place_view c.args.place.now) new >>= (λ _. give new))) c.in_ok-old.ensures
    (evaluates_then (λ i new. put_at (place_view c.args.place.now) new >>= (λ _. give new)) (evaluates_yielded c.in_ok-new.ensures)
    (evaluates_stopped (λ i _. give c.in_ok-new.new) does c.from_residual-in_err-put.ensures))

pub returns : goal.returns
returns g c =
    let does = rw c.in_ok-kept.ensures at c.in_ok-put.ensures in
    evaluates_then (λ i old. increased old (units c.args.by) >>= (λ new. put_at (place_view c.args.place.now) new >>= (λ _. give new))) c.in_ok-old.ensures
    (evaluates_then (λ i new. put_at (place_view c.args.place.now) new >>= (λ _. give new)) (evaluates_yielded c.in_ok-new.ensures)
    (evaluates_then (λ i _. give c.in_ok-new.new) does (evaluates_gives c.in_ok-new.new (λ (v : Text). v) _ refl)))
