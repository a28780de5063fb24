-- SPDX-License-Identifier: Apache-2.0
use Rattle.std.proofs.Common.{◌≡◌, drop, map}
use Rattle.std.specs.Prelude.{◌||◌}
use Rattle.std.specs.List.{list_any}
use Rattle.mtree.specs.Tree.{reference_tree}
use Rattle.mgrammar.specs.CallsIn.{has_call_reference}
use Rattle.mtree.proofs.calls.has_call_references.Given as goal

abbrev pub invariant-loop-reference : goal.invariant-loop-reference
invariant-loop-reference l = l.found || list_any has_call_reference (map reference_tree (drop l.reference-index l.references)) ≡ list_any has_call_reference (map reference_tree l.references)
