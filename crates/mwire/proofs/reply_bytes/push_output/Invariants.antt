-- SPDX-License-Identifier: Apache-2.0
use Rattle.mwire.proofs.WireWords.{◌≡◌, ◌++◌, length, slice_split, position_or_len, output_text, is_line_end}
use Rattle.mwire.proofs.reply_bytes.push_output.Given as goal

-- what is appended and what the rest is shown as are together what the output is
abbrev pub invariant-loop-end : goal.invariant-loop-end
invariant-loop-end l = record {
  shown : l.out.items ++ output_text l.digits (slice_split is_line_end l.rest) ≡ l.initial.out.items ++ output_text l.digits (slice_split is_line_end l.output);
  end_is : l.end ≡ position_or_len is_line_end l.rest;
}

abbrev pub decreases-loop-end : goal.decreases-loop-end
decreases-loop-end l = length l.rest
