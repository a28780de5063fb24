-- SPDX-License-Identifier: Apache-2.0
use Rattle.mworld.proofs.WorldWords.{◌≡◌, is_ascii, take}
use Rattle.mworld.proofs.admission.has_characters_only.Given as goal

abbrev pub invariant-loop-byte : goal.invariant-loop-byte
invariant-loop-byte l = l.are_characters ≡ is_ascii (take l.byte-index l.text)
