-- SPDX-License-Identifier: Apache-2.0
use Rattle.moperator.proofs.OperatorWords.{◌≤◌, ◌-◌, ◌↔◌, drop, length, Matches, IsFirstOf, pattern_of}
use Rattle.moperator.proofs.patterns.text_matches.Given as goal

abbrev pub invariant-loop-next : goal.invariant-loop-next
invariant-loop-next l = record {
  within : l.at ≤ length l.text;
  count : l.passed ≤ length l.atoms;
  first : IsFirstOf l.next (drop l.passed (pattern_of l.atoms));
  same : Matches (pattern_of l.atoms) l.text ↔ Matches (drop l.passed (pattern_of l.atoms)) (drop l.at l.text);
}

abbrev pub decreases-loop-next : goal.decreases-loop-next
decreases-loop-next l = length l.atoms - l.passed
