-- SPDX-License-Identifier: Apache-2.0
use Rattle.mkey.proofs.KeyWords.{◌≡◌, ◌≤◌, length, key_bytes, significant_digits, Node}
use Rattle.mkey.proofs.KeyWalks.{Walked}
use Rattle.mkey.proofs.ancestors.last_subscript.Given as goal

abbrev pub invariant-loop-last : goal.invariant-loop-last
invariant-loop-last l = record {
  fits : length l.rest ≤ length l.bytes;
  walked : (n : Node) → key_bytes significant_digits n ≡ l.bytes → Walked n l.bytes l.rest l.last;
}

abbrev pub decreases-loop-last : goal.decreases-loop-last
decreases-loop-last l = length l.rest
