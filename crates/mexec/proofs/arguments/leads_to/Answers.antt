-- SPDX-License-Identifier: Apache-2.0
use Rattle.mexec.proofs.ExecLaws.{refl, give, completion_of, at_any, at_then, at_stopped, at_gives}
use Rattle.mmeaning.specs.LineMeaning as meaning
use Rattle.mexec.specs.declared.completion.Completion.TheVariants as completion
use Rattle.mexec.proofs.arguments.leads_to.Goals as goal

pub returns-in_err-target : goal.returns-in_err-target
returns-in_err-target g c = at_stopped (λ a n t. give (meaning.Goes t)) (at_any c.in_err-target.ensures.does) c.from_residual.ensures

pub returns : goal.returns
returns g c =
    at_then (λ a n t. give (meaning.Goes t)) (at_any c.in_ok-target.ensures.does) (at_gives _ completion_of (completion.Goes c.in_ok-target.target) refl)
