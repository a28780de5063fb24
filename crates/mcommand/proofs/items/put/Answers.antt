-- SPDX-License-Identifier: Apache-2.0
use Rattle.mcommand.proofs.CommandLaws.{Some, List, refl, ap, ◌∙◌}
use Rattle.moperator.specs.declared.code.Code.TheVariants.{Zmem}
use Rattle.mmeaning.proofs.Yieldings.{yields_gives, yields_wanting}
use Rattle.std.proofs.Common.{true}
use Rattle.mmeaning.specs.Programs.{Item}
use Rattle.mcommand.specs.Steps.{items_view}
use Rattle.mcommand.proofs.StepItems.{item_on}
use Rattle.mcommand.proofs.items.put.Goals as goal

pub returns-in_err-push : goal.returns-in_err-push
returns-in_err-push c = yields_wanting _ _ Zmem _ refl c.from_residual.ensures

pub returns : goal.returns
returns c = yields_gives _ _ true (ap (λ (st : List Item). Some st) (ap items_view c.in_ok-push.ensures.items ∙ item_on c.args.items.now.items c.args.item))
