-- SPDX-License-Identifier: Apache-2.0
use Rattle.mkey.proofs.KeyWords.{◌≡◌, ◌-◌, ◌≤◌, ◌++◌, All, vec_len, subscripts_bytes, IsSub}
use Rattle.mkey.proofs.decoding.read_subs.Given as goal

abbrev pub invariant-loop-rest : goal.invariant-loop-rest
invariant-loop-rest l = record {
  bytes : l.bytes ≡ subscripts_bytes l.kept l.texts.items ++ l.rest;
  subs : All IsSub l.texts.items;
  few : vec_len l.texts ≤ 15;
}

abbrev pub decreases-loop-rest : goal.decreases-loop-rest
decreases-loop-rest l = 15 - vec_len l.texts
