-- SPDX-License-Identifier: Apache-2.0
use Rattle.mwire.proofs.WireWords.{◌≡◌, ℕ, ◌<◌, get_or, false, is_line_end}

abbrev pub invariant-loop-i : Rattle.mwire.proofs.reply_bytes.line_length.Given.invariant-loop-i
invariant-loop-i l = (k : ℕ) → k < l.i → is_line_end (get_or l.output k 0) ≡ false
