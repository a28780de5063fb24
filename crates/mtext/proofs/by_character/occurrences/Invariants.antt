-- SPDX-License-Identifier: Apache-2.0
use Rattle.mtext.proofs.TextWords.{◌≡◌, take, count_by, is_byte}
use Rattle.mtext.proofs.by_character.occurrences.Given as goal

abbrev pub invariant-loop-other : goal.invariant-loop-other
invariant-loop-other l = l.found ≡ count_by (is_byte l.character) (take l.other-index l.block)
