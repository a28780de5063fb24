-- SPDX-License-Identifier: Apache-2.0
use Rattle.mtext.proofs.TextWords.{◌≡◌, ◌≤◌, ◌-◌, length, take, count_by, is_byte}
use Rattle.mtext.proofs.by_character.delimiters.Given as goal

abbrev pub invariant-loop-at : goal.invariant-loop-at
invariant-loop-at l = record {
  within : l.at ≤ length l.text;
  counted : l.passed ≡ count_by (is_byte l.character) (take l.at l.text);
}

abbrev pub decreases-loop-at : goal.decreases-loop-at
decreases-loop-at l = length l.text - l.at
