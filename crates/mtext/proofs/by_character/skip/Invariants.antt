-- SPDX-License-Identifier: Apache-2.0
use Rattle.mtext.proofs.TextWords.{◌≡◌, ◌+◌, ◌<◌, take, count_by, is_byte}
use Rattle.mtext.proofs.by_character.skip.Given as goal

abbrev pub invariant-loop-at : goal.invariant-loop-at
invariant-loop-at l = record {
  counted : count_by (is_byte l.character) (take l.at l.text) + l.left ≡ l.count;
  some : 0 < l.left;
}
