-- SPDX-License-Identifier: Apache-2.0
use Rattle.meval.proofs.EvalLaws.{refl, place_view, evaluates_then, evaluates_stopped, evaluates_gives, evaluates_fails, read_is}
use Rattle.meval.proofs.eval.Eval.read.Goals as goal

pub returns-in_err-value : goal.returns-in_err-value
returns-in_err-value g c = rw (read_is (place_view c.args.place.now)) (evaluates_stopped _ c.in_err-value.ensures c.from_residual.ensures)

pub returns-in-Some : goal.returns-in-Some
returns-in-Some g c =
    let found = rw c.in-Some.is at c.in_ok-value.ensures in
    rw (read_is (place_view c.args.place.now)) (evaluates_then _ found (evaluates_gives _ _ _ refl))

pub returns-in-None : goal.returns-in-None
returns-in-None g c =
    let found = rw c.in-None.is at c.in_ok-value.ensures in
    rw (read_is (place_view c.args.place.now)) (evaluates_then _ found (evaluates_fails _ _ _ c.undefined.ensures))
