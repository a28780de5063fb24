-- SPDX-License-Identifier: Apache-2.0
use Rattle.std.proofs.Common.{◌≡◌, drop, map}
use Rattle.std.specs.Prelude.{max}
use Rattle.mtree.specs.Tree.{reference_tree}
use Rattle.mgrammar.specs.Languages.{since_all, since_reference}
use Rattle.mtree.proofs.since.since_references.Given as goal

abbrev pub invariant-loop-reference : goal.invariant-loop-reference
invariant-loop-reference l = max l.since (since_all since_reference (map reference_tree (drop l.reference-index l.references))) ≡ since_all since_reference (map reference_tree l.references)
