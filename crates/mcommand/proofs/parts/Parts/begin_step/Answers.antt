-- SPDX-License-Identifier: Apache-2.0
use Rattle.mcommand.proofs.CommandLaws.{[], Bool, does_then, does_evaluated, does_yielded}
use Rattle.mmeaning.specs.Programs.{handing, on_top}
use Rattle.mcommand.specs.Steps.{items_view}
use Rattle.mcommand.proofs.parts.Parts.begin_step.Goals as goal

pub returns : goal.returns
returns g c =
    let put = rw c.new.ensures.items at c.put.ensures in
    does_then (λ i (b : Bool). on_top (items_view c.args.items.now.items) (handing b [])) (does_evaluated c.test-test.ensures) (does_yielded put)
