-- SPDX-License-Identifier: Apache-2.0
use Rattle.moperator.proofs.OperatorWords.{ap, pos, ◌∙◌, ◌^◌, units}
use Rattle.std.specs.Prelude.{ℤ, ◌*ℤ◌}
use Rattle.std.specs.Ordering.{int_cmp, is_eq}
use Rattle.moperator.proofs.Numbers.{whole_fits}
use Rattle.moperator.proofs.operators.is_whole.Goals as goal

pub returns : goal.returns
returns c =
    let whole = whole_fits c.to_whole.result c.to_whole.ensures.below ∙ c.to_whole.ensures.value in
    c.is_eq.ensures ∙ ap is_eq (c.cmp.ensures ∙ ap (λ (z : ℤ). int_cmp (units c.args.number) z) (c.from_whole.ensures ∙ ap (λ (z : ℤ). z *ℤ pos (10 ^ 18)) whole))
