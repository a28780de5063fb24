-- SPDX-License-Identifier: Apache-2.0
use Rattle.meval.proofs.EvalLaws.{sym, ◌∙◌, ◌≡◌, subst, standing_of, walk_view, way, evaluates_then, evaluates_stopped, evaluates_yielded}
use Rattle.meval.proofs.EvalWords.{false, Place}
use Rattle.mmeaning.specs.Variables.{query_at}
use Rattle.meval.specs.Kept.{may_read_at}
use Rattle.meval.proofs.MayRead.{opened}
use Rattle.meval.proofs.QueryRuns.{nothing_follows}
use Rattle.meval.proofs.eval.Eval.query_at.Goals as goal

pub returns-in_err-direction : goal.returns-in_err-direction
returns-in_err-direction g c =
    evaluates_stopped (λ i d. query_at i.account d c.args.place.now) (evaluates_yielded c.in_err-direction.ensures) c.from_residual.ensures

pub returns-then-not-may_walk : goal.returns-then-not-may_walk
returns-then-not-may_walk g c =
    let closed = subst (λ (p : Place). may_read_at (standing_of c.args.self.now) p ≡ false) c.place.view_is (sym c.may_walk.ensures ∙ c.if-not-may_walk.true) in
    evaluates_then (λ i d. query_at i.account d c.args.place.now) (evaluates_yielded c.in_ok-direction.ensures)
    (nothing_follows (way c.in_ok-direction.direction) c.args.place.now _ closed c.next_value.ensures)

pub query-requires-clause-allowed : goal.query-requires-clause-allowed
query-requires-clause-allowed g c = opened (standing_of c.args.self.now) (walk_view c.place.inside.walk) (sym c.may_walk.ensures ∙ c.if-not-may_walk.false)

pub returns : goal.returns
returns g c =
    let found = rw c.place.view_is at c.query.ensures in
    evaluates_then (λ i d. query_at i.account d c.args.place.now) (evaluates_yielded c.in_ok-direction.ensures) found
