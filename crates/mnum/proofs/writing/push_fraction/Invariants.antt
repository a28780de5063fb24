-- SPDX-License-Identifier: Apache-2.0
use Rattle.mnum.proofs.NumWords.{◌≡◌, ◌+◌, ◌^◌, ◌<◌, ◌≤◌, ◌++◌, array_vec_len, fraction_text}
use Rattle.mnum.proofs.writing.push_fraction.Given as goal

abbrev pub invariant-loop-left : goal.invariant-loop-left
invariant-loop-left l = record {
  below : l.left < 10 ^ l.k;
  few : l.k ≤ l.places;
  items : l.out.items ++ fraction_text l.k l.left ≡ l.initial.out.items ++ fraction_text l.places l.fraction;
  len : array_vec_len l.out + l.k ≡ array_vec_len l.initial.out + l.places;
}

abbrev pub decreases-loop-left : goal.decreases-loop-left
decreases-loop-left l = l.k
