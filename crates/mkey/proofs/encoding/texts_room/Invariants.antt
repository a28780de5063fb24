-- SPDX-License-Identifier: Apache-2.0
use Rattle.mkey.proofs.KeyWords.{◌*◌, ◌<◌, ◌≤◌, ℕ, [], get_or, IsAscii}
use Rattle.mkey.proofs.encoding.texts_room.Given as goal

abbrev pub invariant-loop-text : goal.invariant-loop-text
invariant-loop-text l = record {
  few : l.total ≤ l.text-index * 272;
  ascii : (k : ℕ) → k < l.text-index → IsAscii (get_or l.subs k []);
}
