-- SPDX-License-Identifier: Apache-2.0
use Rattle.moperator.proofs.OperatorWords.{◌≡◌, ◌-◌, ◌^◌, ◌≤◌, drop, map, turns_of, atom_tree, capped}
use Rattle.std.specs.Prelude.{◌+◌}
use Rattle.mgrammar.specs.Grammar.{patterns_of}
use Rattle.mgrammar.specs.Matching.{turns_of_patterns}
use Rattle.mtree.specs.Tree.{alternative_trees}
use Rattle.moperator.proofs.turns.+turns.Given as goal

abbrev pub invariant-turns_of_patterns-loop-pattern : goal.invariant-turns_of_patterns-loop-pattern
invariant-turns_of_patterns-loop-pattern l = record {
  same :
      capped (l.all + turns_of_patterns l.characters (patterns_of (map alternative_trees (drop l.pattern-index l.patterns)))) ≡ capped (turns_of_patterns l.characters (patterns_of (map alternative_trees l.patterns)));
  fits : l.all ≤ 2 ^ 64 - 1;
}

abbrev pub invariant-turns_of-loop-atom : goal.invariant-turns_of-loop-atom
invariant-turns_of-loop-atom l = record {
  same : capped (l.all + turns_of l.characters (map atom_tree (drop l.atom-index l.atoms))) ≡ capped (turns_of l.characters (map atom_tree l.atoms));
  fits : l.all ≤ 2 ^ 64 - 1;
}
