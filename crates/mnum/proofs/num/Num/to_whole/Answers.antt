-- SPDX-License-Identifier: Apache-2.0
use Rattle.mnum.proofs.NumWords.{true, false, ap, ◌∙◌, signed}
use Rattle.mnum.proofs.WholeParts.{whole_is, whole_kept, whole_negated}
use Rattle.mnum.proofs.num.Num.to_whole.Goals as goal

pub returns-then-self-clause-value : goal.returns-then-self-clause-value
returns-then-self-clause-value c =
    let n = c.args.self in
    rw (whole_negated c.parts-whole.result.0 c.parts-whole.ensures.few_whole, c.if-self.true) (ap (signed true) c.parts-whole.ensures.whole ∙ whole_is true n.digits n.places n.places_at_most)

pub returns-else-self-clause-value : goal.returns-else-self-clause-value
returns-else-self-clause-value c =
    let n = c.args.self in
    rw (whole_kept c.parts-whole.result.0 c.parts-whole.ensures.few_whole, c.if-self.false) (ap (signed false) c.parts-whole.ensures.whole ∙ whole_is false n.digits n.places n.places_at_most)
