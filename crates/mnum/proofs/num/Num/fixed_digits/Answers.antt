-- SPDX-License-Identifier: Apache-2.0
use Rattle.mnum.proofs.NumWords.{ap, sym, ◌∙◌, ◌++◌, List, ℕ, decimal}
use Rattle.mnum.proofs.Places.{size_whole, whole_ascii}
use Rattle.mnum.proofs.num.Num.fixed_digits.Goals as goal

pub returns-clause-digits : goal.returns-clause-digits
returns-clause-digits c =
    let n = c.args.self in
    c.push_decimal.ensures.items ∙ ap (λ (t : List ℕ). t ++ decimal c.parts-whole.result.0) c.new-out.ensures
    ∙ ap decimal (c.parts-whole.ensures.whole ∙ sym (size_whole n.negative n.digits n.places n.places_at_most))

pub returns-clause-ascii : goal.returns-clause-ascii
returns-clause-ascii c =
    whole_ascii c.parts-whole.result.0 c.push_decimal.new.out.items c.parts-whole.ensures.few_whole (c.push_decimal.ensures.items ∙ ap (λ (t : List ℕ). t ++ decimal c.parts-whole.result.0) c.new-out.ensures)
