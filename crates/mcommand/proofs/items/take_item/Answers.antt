-- SPDX-License-Identifier: Apache-2.0
use Rattle.mcommand.proofs.CommandLaws.{refl, arith}
use Rattle.mcommand.specs.Steps.{item_on_top}
use Rattle.mcommand.proofs.StepItems.{taken, missing}
use Rattle.mcommand.proofs.items.take_item.Goals as goal

pub returns-in-Some : goal.returns-in-Some
returns-in-Some c = taken item_on_top _ _ _ _ _ c.pop.ensures.items c.in-Some.is refl refl

pub returns-in-None : goal.returns-in-None
returns-in-None c =
    let none = rw c.in-None.is at c.pop.ensures.cases in
    missing item_on_top c.args.items.now.items (omega (arith, c.args.items.now.ok, none)) refl
