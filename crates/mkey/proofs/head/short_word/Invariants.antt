-- SPDX-License-Identifier: Apache-2.0
use Rattle.mkey.proofs.KeyWords.{◌≡◌, head_number}
use Rattle.mkey.proofs.head.short_word.Given as goal

-- the number of the bytes so far
abbrev pub invariant-loop-place : goal.invariant-loop-place
invariant-loop-place l = l.number ≡ head_number l.place l.bytes
