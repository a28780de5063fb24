-- SPDX-License-Identifier: Apache-2.0
use Rattle.mcommand.proofs.CommandLaws.{does_then, does_stopped, does_evaluated}
use Rattle.mmeaning.specs.Expression.{linked_by}
use Rattle.mcommand.proofs.parts.Parts.handed_name.Goals as goal

pub returns-in_err-given : goal.returns-in_err-given
returns-in_err-given g c = does_stopped linked_by (does_evaluated c.in_err-given.ensures.does) c.from_residual.ensures

pub returns : goal.returns
returns g c = does_then linked_by (does_evaluated c.in_ok-given.ensures.does) c.linked_by.ensures
