-- SPDX-License-Identifier: Apache-2.0
use Rattle.std.proofs.Common.{◌≡◌, drop, map}
use Rattle.mtree.specs.Tree.{reference_tree}
use Rattle.mprogram.specs.Found.{in_names}
use Rattle.mprogram.proofs.whole.in_references.Given as goal

abbrev pub invariant-loop-reference : goal.invariant-loop-reference
invariant-loop-reference l = in_names (map reference_tree (drop l.reference-index l.references)) l.left ≡ in_names (map reference_tree l.references) l.fn.at
