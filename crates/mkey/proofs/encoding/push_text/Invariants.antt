-- SPDX-License-Identifier: Apache-2.0
use Rattle.mkey.proofs.KeyWords.{◌≡◌, ◌+◌, ◌++◌, drop, vec_len, vec_capacity, text_bytes}
use Rattle.mkey.proofs.encoding.push_text.Given as goal

abbrev pub invariant-loop-c : goal.invariant-loop-c
invariant-loop-c l = record {
  items : l.out.items ++ text_bytes (drop l.c-index l.text) ≡ l.initial.out.items ++ text_bytes l.text;
  len : vec_len l.out ≡ vec_len l.initial.out + l.c-index;
  capacity : vec_capacity l.out ≡ vec_capacity l.initial.out;
}
