-- SPDX-License-Identifier: Apache-2.0
use Rattle.mkey.proofs.KeyWords.{◌*◌, ◌<◌, ◌≤◌, ℕ, [], get_or, IsAscii}
use Rattle.mkey.proofs.encoding.values_room.Given as goal

abbrev pub invariant-loop-value : goal.invariant-loop-value
invariant-loop-value l = record {
  few : l.total ≤ l.value-index * 272;
  ascii : (k : ℕ) → k < l.value-index → IsAscii (get_or l.subs k []);
}
