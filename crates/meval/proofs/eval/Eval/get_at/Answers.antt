-- SPDX-License-Identifier: Apache-2.0
use Rattle.meval.proofs.EvalLaws.{sym, ◌∙◌, [], read_or, unwrap_or, slice_get, standing_of, evaluates_then, evaluates_stopped, evaluates_yielded}
use Rattle.meval.specs.Kept.{readable_view}
use Rattle.meval.proofs.MayRead.{opened, gets_other}
use Rattle.meval.proofs.eval.Eval.get_at.Goals as goal

pub returns-then-not-may_read : goal.returns-then-not-may_read
returns-then-not-may_read g c =
    let is = rw c.of_vec-others.ensures at c.first_or_empty.ensures in
    gets_other (readable_view c.args.place) _ _ (sym c.may_read.ensures ∙ c.if-not-may_read.true) is

pub read_or-requires : goal.read_or-requires
read_or-requires g c =
    rw c.in_ok-place.ensures.place (opened (standing_of c.args.self.now) (readable_view c.args.place) (sym c.may_read.ensures ∙ c.if-not-may_read.false))

pub returns-in_err-place : goal.returns-in_err-place
returns-in_err-place g c =
    evaluates_stopped (λ i p. read_or (unwrap_or (slice_get c.args.others.items 0) []) p) (evaluates_yielded c.in_err-place.ensures.does) c.from_residual.ensures

pub returns : goal.returns
returns g c = rw (c.in_ok-place.ensures.place, c.of_vec-others.ensures) at c.read_or.ensures
