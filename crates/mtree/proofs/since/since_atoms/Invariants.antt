-- SPDX-License-Identifier: Apache-2.0
use Rattle.std.proofs.Common.{◌≡◌, drop, map}
use Rattle.std.specs.Prelude.{max}
use Rattle.mtree.specs.Tree.{atom_tree}
use Rattle.mgrammar.specs.Languages.{since_all, since_atom}
use Rattle.mtree.proofs.since.since_atoms.Given as goal

abbrev pub invariant-loop-atom : goal.invariant-loop-atom
invariant-loop-atom l = max l.since (since_all since_atom (map atom_tree (drop l.atom-index l.atoms))) ≡ since_all since_atom (map atom_tree l.atoms)
