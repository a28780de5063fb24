-- SPDX-License-Identifier: Apache-2.0
use Rattle.mtext.proofs.TextWords.{◌≡◌, ◌≤◌, length, take, translation}
use Rattle.mtext.proofs.making.translated_length.Given as goal

abbrev pub invariant-loop-character : goal.invariant-loop-character
invariant-loop-character l = record {
  so_far : l.length ≡ length (translation (take l.character-index l.characters) l.from l.to);
  few : l.length ≤ l.character-index;
}
