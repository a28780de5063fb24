-- SPDX-License-Identifier: Apache-2.0
use Rattle.meval.proofs.EvalLaws.{evaluates_then, evaluates_stopped, evaluates_gives, evaluates_wanting, standing_of, place_view, writing_reads}
use Rattle.meval.proofs.eval.Eval.text_or_empty.Goals as goal

pub returns-in_err-value : goal.returns-in_err-value
returns-in_err-value g c = evaluates_stopped _ c.in_err-value.ensures c.from_residual.ensures

pub returns-in_err-into_text-in-Some : goal.returns-in_err-into_text-in-Some
returns-in_err-into_text-in-Some g c =
    let found = rw c.in-Some.is at c.in_ok-value.ensures in
    evaluates_then _ found (evaluates_wanting _ _ _ c.from_residual-in_err-into_text-in-Some.ensures)

pub returns-in_ok-into_text-in-Some : goal.returns-in_ok-into_text-in-Some
returns-in_ok-into_text-in-Some g c =
    let found = rw c.in-Some.is at c.in_ok-value.ensures in
    evaluates_then _ found (evaluates_gives _ _ _ c.in_ok-into_text-in-Some.ensures)

pub returns-in-None : goal.returns-in-None
returns-in-None g c =
    let found = rw c.in-None.is at c.in_ok-value.ensures in
    evaluates_then _ found (evaluates_gives _ _ _ c.empty.ensures)

pub found-requires : goal.found-requires
found-requires g c = writing_reads (standing_of c.args.self.now) (place_view c.args.place.now) c.requires
