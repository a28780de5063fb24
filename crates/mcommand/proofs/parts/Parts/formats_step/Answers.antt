-- SPDX-License-Identifier: Apache-2.0
use Rattle.mcommand.proofs.CommandLaws.{Some, true, refl, give, does_then, does_stopped, does_gives}
use Rattle.mcommand.specs.Steps.{items_view}
use Rattle.mcommand.proofs.parts.Parts.formats_step.Goals as goal

pub returns-in_err-write_formats : goal.returns-in_err-write_formats
returns-in_err-write_formats g c =
    let written = rw c.as_bytes.ensures.bytes at c.in_err-write_formats.ensures in
    does_stopped (λ i (u : Unit {0}). give (Some (items_view c.args.items.now.items))) written c.from_residual.ensures

pub returns : goal.returns
returns g c =
    let written = rw c.as_bytes.ensures.bytes at c.in_ok-write_formats.ensures in
    does_then (λ i (u : Unit {0}). give (Some (items_view c.args.items.now.items))) written (does_gives _ _ true refl)
