-- SPDX-License-Identifier: Apache-2.0
use Rattle.mcommand.proofs.CommandLaws.{ap, Option}
use Rattle.mmeaning.specs.LineMeaning as meaning
use Rattle.mmeaning.specs.Variables.{Evaluated}
use Rattle.mgrammar.specs.Functions.{FunctionTree}
use Rattle.std.specs.Prelude.{Some}
use Rattle.mtree.specs.Functions.{value_function_tree}
use Rattle.mcommand.specs.Prepared.{row_of}
use Rattle.mcommand.proofs.set.Prepared.into_own.Goals as goal

pub returns-in_ok-pending-in-Whole : goal.returns-in_ok-pending-in-Whole
returns-in_ok-pending-in-Whole c = rw c.in-Whole.is (ap meaning.whole c.in_ok-pending-in-Whole.ensures)

pub returns-in_ok-pending-in-Part : goal.returns-in_ok-pending-in-Part
returns-in_ok-pending-in-Part c =
    rw c.in-Part.is
    (ap (λ (v : Evaluated). meaning.partial (Some (row_of (value_function_tree c.in-Part.function))) v c.in-Part.values) c.in_ok-pending-in-Part.ensures)
