-- SPDX-License-Identifier: Apache-2.0
use Rattle.moperator.proofs.OperatorWords.{◌≡◌, ℕ, drop, map, list_any, atom_reversed, turns_of, atom_tree}
use Rattle.moperator.proofs.turns.is_plain.Given as goal

abbrev pub invariant-loop-atom : goal.invariant-loop-atom
invariant-loop-atom l = record {
  reversed : list_any atom_reversed (map atom_tree (drop l.atom-index l.atoms)) ≡ list_any atom_reversed (map atom_tree l.atoms);
  turns : (n : ℕ) → turns_of n (map atom_tree (drop l.atom-index l.atoms)) ≡ turns_of n (map atom_tree l.atoms);
}
