-- SPDX-License-Identifier: Apache-2.0
use Rattle.mnum.proofs.NumWords.{◌≡◌, ℕ, ◌^◌, ◌<◌, true, take, get_or, IsCapped, is_digit, digits_after}
use Rattle.mnum.proofs.reading.read_capped.Given as goal

abbrev pub invariant-loop-c : goal.invariant-loop-c
invariant-loop-c l = record {
  below : l.number < 10 ^ 21;
  digits : (k : ℕ) → k < l.c-index → is_digit (get_or l.text k 0) ≡ true;
  value : IsCapped l.number (digits_after 0 (take l.c-index l.text));
}
