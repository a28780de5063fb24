-- SPDX-License-Identifier: Apache-2.0
use Rattle.mexec.proofs.ExecLaws.{◌∷◌, refl, drop, context, depth_of, position_of, runs_as, runs_wanting, further_failed}
use Rattle.mmeaning.specs.Programs.{carried, one_value}
use Rattle.mcommand.specs.Steps.{items_view}
use Rattle.mexec.specs.Frames.{holder_position}
use Rattle.mexec.specs.Wholes.{whole_of, steps_within, ending_within}
use Rattle.mexec.proofs.ProgramRuns.{value_lacks}
use Rattle.mcommand.proofs.StepItems.{item_on}
use Rattle.mexec.proofs.programs.after_call.Goals as goal

pub returns-in_err-push-clause-does : goal.returns-in_err-push-clause-does
returns-in_err-push-clause-does g c = runs_wanting _ _ c.from_residual.ensures

pub returns-clause-does : goal.returns-clause-does
returns-clause-does g c =
    let does = rw (c.place.ensures.whole, c.place.ensures.position, c.in_ok-push.ensures.items, item_on, c.into_inner-holder.ensures, c.into_inner.ensures) at c.carried.ensures.does in
    rw c.in-Returns.is (runs_as (λ a n. refl) does)

pub carried-requires : goal.carried-requires
carried-requires g c = rw c.place.ensures.whole c.into_inner-holder.result.there

pub returns-in_default-clause-does : goal.returns-in_default-clause-does
returns-in_default-clause-does g c =
    let s = c.args.suspended.value in
    let p = position_of (holder_position s.holder) in
    further_failed
    (λ a n v. carried (context a n p) (depth_of s.depth) (drop s.at (steps_within (whole_of s.holder))) (ending_within (whole_of s.holder))
    (one_value v ∷ items_view s.items.items))
    (value_lacks c.args.completion c.in_default.not-Returns) (refl, refl)
