-- SPDX-License-Identifier: Apache-2.0
use Rattle.meval.proofs.EvalLaws.{ap, ◌∙◌}
use Rattle.std.specs.Prelude.{unsigned_abs}
use Rattle.moperator.proofs.Numbers.{whole_fits}
use Rattle.meval.proofs.powers.times_of.Goals as goal

pub returns : goal.returns
returns c = c.unsigned_abs.ensures.value ∙ ap unsigned_abs (whole_fits c.to_whole.result c.to_whole.ensures.below ∙ c.to_whole.ensures.value)
