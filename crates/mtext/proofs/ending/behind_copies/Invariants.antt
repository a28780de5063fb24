-- SPDX-License-Identifier: Apache-2.0
use Rattle.mtext.proofs.TextWords.{◌≡◌, ◌≤◌, ◌++◌, length, drop, copied}
use Rattle.mtext.proofs.ending.behind_copies.Given as goal

abbrev pub invariant-loop-copy : goal.invariant-loop-copy
invariant-loop-copy l = record {
  within : l.at ≤ length l.text;
  stand : l.text ≡ copied l._copy l.string ++ drop l.at l.text;
}
