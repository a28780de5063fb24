-- SPDX-License-Identifier: Apache-2.0
use Rattle.mtext.proofs.TextWords.{◌≡◌, ◌+◌, drop, prefix_len, is_in_set}
use Rattle.mtext.proofs.ending.run.Given as goal

abbrev pub invariant-loop-place : goal.invariant-loop-place
invariant-loop-place l = prefix_len (is_in_set l.set) l.text ≡ l.place + prefix_len (is_in_set l.set) (drop l.place l.text)
