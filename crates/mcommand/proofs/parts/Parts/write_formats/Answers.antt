-- SPDX-License-Identifier: Apache-2.0
use Rattle.mspec.specs.Cursor.{after_formats}
use Rattle.mcommand.proofs.CommandLaws.{refl, move_cursor, does_then, does_evaluated, does_wanting, does_append}
use Rattle.mcommand.proofs.parts.Parts.write_formats.Goals as goal

pub returns-in_err-push_formats : goal.returns-in_err-push_formats
returns-in_err-push_formats g c = does_wanting _ _ _ c.from_residual.ensures refl refl refl refl

pub returns : goal.returns
returns g c =
    does_then (λ i (u : Unit {0}). move_cursor (after_formats c.args.formats.now)) (does_append _ _ _ c.in_ok-push_formats.ensures refl refl refl)
    (does_evaluated c.wrote_formats.ensures)
