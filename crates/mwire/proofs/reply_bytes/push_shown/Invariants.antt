-- SPDX-License-Identifier: Apache-2.0
use Rattle.mwire.proofs.WireWords.{◌≡◌, ◌++◌, length, shown}
use Rattle.mwire.proofs.reply_bytes.push_shown.Given as goal

-- what is appended and what the rest is shown as are together what the text is
abbrev pub invariant-loop-rest : goal.invariant-loop-rest
invariant-loop-rest l = l.out.items ++ shown l.rest ≡ l.initial.out.items ++ shown l.text

abbrev pub decreases-loop-rest : goal.decreases-loop-rest
decreases-loop-rest l = length l.rest
