-- SPDX-License-Identifier: Apache-2.0
use Rattle.mnum.proofs.NumWords.{◌≡◌, ℕ, ◌+◌, ◌^◌, ◌<◌, ◌≤◌, true, take, get_or, IsHead, is_digit, digits_after}
use Rattle.mnum.proofs.reading.read_digits.Given as goal

abbrev pub invariant-loop-i : goal.invariant-loop-i
invariant-loop-i l = record {
  few : l.head.digits < 10 ^ 19;
  dropped : l.head.dropped ≤ l.fn.head.dropped + l.i;
  digits : (k : ℕ) → k < l.i → is_digit (get_or l.text k 0) ≡ true;
  value : (number : ℕ) → IsHead l.fn.head.digits l.fn.head.dropped number → IsHead l.head.digits l.head.dropped (digits_after number (take l.i l.text));
}
