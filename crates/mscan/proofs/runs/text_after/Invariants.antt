-- SPDX-License-Identifier: Apache-2.0
use Rattle.std.proofs.Common.{◌≡◌, false, drop}
use Rattle.mgrammar.specs.ReadingWords.{with_front, text_from}
use Rattle.mscan.proofs.runs.text_after.Given as goal

abbrev pub invariant-loop-i : goal.invariant-loop-i
invariant-loop-i l = with_front l.text (text_from l.quoted (drop l.i l.bytes)) ≡ text_from false l.bytes
