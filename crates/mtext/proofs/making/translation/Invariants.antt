-- SPDX-License-Identifier: Apache-2.0
use Rattle.mtext.proofs.TextWords.{◌≡◌, take, translation}
use Rattle.mtext.proofs.making.translation.Given as goal

abbrev pub invariant-loop-character : goal.invariant-loop-character
invariant-loop-character l = l.out ≡ translation (take l.character-index l.characters) l.from l.to
