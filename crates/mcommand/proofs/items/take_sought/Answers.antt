-- SPDX-License-Identifier: Apache-2.0
use Rattle.mcommand.proofs.CommandLaws.{refl, arith}
use Rattle.mcommand.specs.Steps.{sought_on_top}
use Rattle.mcommand.proofs.StepItems.{taken, refused, missing}
use Rattle.mcommand.proofs.items.take_sought.Goals as goal

pub returns-in_default : goal.returns-in_default
returns-in_default c =
    let none = rw c.in_default.is at c.pop.ensures.cases in
    missing sought_on_top c.args.items.now.items (omega (arith, c.args.items.now.ok, none)) refl

pub returns-in-Value : goal.returns-in-Value
returns-in-Value c = refused sought_on_top _ _ _ _ _ c.pop.ensures.items c.in-Some.is c.in-Value.is refl

pub returns-in-Values : goal.returns-in-Values
returns-in-Values c = refused sought_on_top _ _ _ _ _ c.pop.ensures.items c.in-Some.is c.in-Values.is refl

pub returns-in-Found : goal.returns-in-Found
returns-in-Found c = refused sought_on_top _ _ _ _ _ c.pop.ensures.items c.in-Some.is c.in-Found.is refl

pub returns-in-Placed : goal.returns-in-Placed
returns-in-Placed c = refused sought_on_top _ _ _ _ _ c.pop.ensures.items c.in-Some.is c.in-Placed.is refl

pub returns-in-Walked : goal.returns-in-Walked
returns-in-Walked c = refused sought_on_top _ _ _ _ _ c.pop.ensures.items c.in-Some.is c.in-Walked.is refl

pub returns-in-Sought : goal.returns-in-Sought
returns-in-Sought c = taken sought_on_top _ _ _ _ _ c.pop.ensures.items c.in-Some.is c.in-Sought.is refl

pub returns-in-Made : goal.returns-in-Made
returns-in-Made c = refused sought_on_top _ _ _ _ _ c.pop.ensures.items c.in-Some.is c.in-Made.is refl

pub returns-in-Handing : goal.returns-in-Handing
returns-in-Handing c = refused sought_on_top _ _ _ _ _ c.pop.ensures.items c.in-Some.is c.in-Handing.is refl

pub returns-in-Numbers : goal.returns-in-Numbers
returns-in-Numbers c = refused sought_on_top _ _ _ _ _ c.pop.ensures.items c.in-Some.is c.in-Numbers.is refl

pub returns-in-Outside : goal.returns-in-Outside
returns-in-Outside c = refused sought_on_top _ _ _ _ _ c.pop.ensures.items c.in-Some.is c.in-Outside.is refl

pub returns : goal.returns
returns c = refused sought_on_top _ _ _ _ _ c.pop.ensures.items c.in-Some.is c.in-Names.is refl
