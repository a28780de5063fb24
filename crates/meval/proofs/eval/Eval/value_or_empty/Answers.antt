-- SPDX-License-Identifier: Apache-2.0
use Rattle.meval.proofs.EvalLaws.{refl, evaluates_then, evaluates_stopped, evaluates_gives, standing_of, place_view, writing_reads, ◌∙◌}
use Rattle.meval.proofs.eval.Eval.value_or_empty.Goals as goal

pub returns-in_err-value : goal.returns-in_err-value
returns-in_err-value g c = evaluates_stopped _ c.in_err-value.ensures c.from_residual.ensures

pub returns-in-Some : goal.returns-in-Some
returns-in-Some g c =
    let found = rw c.in-Some.is at c.in_ok-value.ensures in
    evaluates_then _ found (evaluates_gives _ _ _ refl)

pub returns-in-None : goal.returns-in-None
returns-in-None g c =
    let found = rw c.in-None.is at c.in_ok-value.ensures in
    evaluates_then _ found (evaluates_gives _ _ _ (c.of_text.ensures ∙ c.empty.ensures))

pub found-requires : goal.found-requires
found-requires g c = writing_reads (standing_of c.args.self.now) (place_view c.args.place.now) c.requires
