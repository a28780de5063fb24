-- SPDX-License-Identifier: Apache-2.0
use Rattle.mcommand.proofs.CommandLaws.{units, added, added_within, does_then, does_stopped, does_evaluated}
use Rattle.mcommand.proofs.parts.Parts.advance_parameter.Goals as goal

pub returns-in_err-number-in-Endless : goal.returns-in_err-number-in-Endless
returns-in_err-number-in-Endless g c = rw c.in-Endless.is (does_stopped (λ i n. added c.args.index.now n (units c.in-Endless.by)) (does_evaluated c.in_err-number-in-Endless.ensures) c.from_residual.ensures)

pub returns-in_ok-number-in-Endless : goal.returns-in_ok-number-in-Endless
returns-in_ok-number-in-Endless g c = rw c.in-Endless.is (does_then (λ i n. added c.args.index.now n (units c.in-Endless.by)) (does_evaluated c.in_ok-number-in-Endless.ensures) c.add.ensures)

pub returns-in_err-number-in-Limited : goal.returns-in_err-number-in-Limited
returns-in_err-number-in-Limited g c =
    rw c.in-Limited.is
    (does_stopped (λ i n. added_within c.args.index.now n (units c.in-Limited.by) (units c.in-Limited.limit)) (does_evaluated c.in_err-number-in-Limited.ensures) c.from_residual-in_err-number-in-Limited.ensures)

pub returns-in_ok-number-in-Limited : goal.returns-in_ok-number-in-Limited
returns-in_ok-number-in-Limited g c =
    rw c.in-Limited.is
    (does_then (λ i n. added_within c.args.index.now n (units c.in-Limited.by) (units c.in-Limited.limit)) (does_evaluated c.in_ok-number-in-Limited.ensures) c.add_within.ensures)
