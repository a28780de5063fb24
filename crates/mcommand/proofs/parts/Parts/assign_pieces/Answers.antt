-- SPDX-License-Identifier: Apache-2.0
use Rattle.mcommand.proofs.CommandLaws.{◌≡◌, Ok, Err, Some, does_then, does_stopped, does_wanting, does_yielded, refl}
use Rattle.mmeaning.specs.Functions.{text_at, whole_at}
use Rattle.mmeaning.specs.LineMeaning as meaning
use Rattle.meval.specs.Places.{pending_view}
use Rattle.mcommand.proofs.parts.Parts.assign_pieces.Goals as goal

pub returns-in_err-from : goal.returns-in_err-from
returns-in_err-from g c = does_stopped _ (does_yielded c.in_err-from.ensures.whole) c.from_residual.ensures

pub returns-in_err-to : goal.returns-in_err-to
returns-in_err-to g c = does_then _ (does_yielded c.in_ok-from.ensures.whole) (does_stopped _ (does_yielded c.in_err-to.ensures.whole) c.from_residual-in_err-to.ensures)

pub returns-in_err-delimiter : goal.returns-in_err-delimiter
returns-in_err-delimiter g c = does_then _ (does_yielded c.in_ok-from.ensures.whole) (does_then _ (does_yielded c.in_ok-to.ensures.whole) (does_wanting _ _ _ c.from_residual-in_err-delimiter.ensures refl refl refl refl))

pub returns : goal.returns
returns g c =
    let does = rw (c.as_text.ensures, c.in_ok-delimiter.ensures) at c.assign_range.ensures in
    does_then _ (does_yielded c.in_ok-from.ensures.whole) (does_then _ (does_yielded c.in_ok-to.ensures.whole) does)
