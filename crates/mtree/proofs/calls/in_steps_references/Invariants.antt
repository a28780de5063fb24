-- SPDX-License-Identifier: Apache-2.0
use Rattle.std.proofs.Common.{◌≡◌, drop, map}
use Rattle.std.specs.Prelude.{◌&&◌}
use Rattle.std.specs.List.{list_all}
use Rattle.mtree.specs.Tree.{reference_tree}
use Rattle.mgrammar.specs.ProgramsIn.{in_steps_reference}
use Rattle.mtree.proofs.calls.in_steps_references.Given as goal

abbrev pub invariant-loop-reference : goal.invariant-loop-reference
invariant-loop-reference l =
    l.all && list_all in_steps_reference (map reference_tree (drop l.reference-index l.references))
    ≡ list_all in_steps_reference (map reference_tree l.references)
