-- SPDX-License-Identifier: Apache-2.0
use Rattle.mwire.proofs.WireWords.{◌≡◌, ◌^◌, ◌<◌, true, list_all, is_digit, digits_after, take}

abbrev pub invariant-loop-c : Rattle.mwire.proofs.wire_line.terminal_of.Given.invariant-loop-c
invariant-loop-c l = record {
  digits : list_all is_digit (take l.c-index l.digits) ≡ true;
  value : l.terminal ≡ digits_after 0 (take l.c-index l.digits);
  below : l.terminal < 10 ^ l.c-index;
}
