-- SPDX-License-Identifier: Apache-2.0
use Rattle.mnum.proofs.NumWords.{◌≡◌, ◌-◌, ◌*◌, ◌^◌, ◌<◌, ◌≤◌}
use Rattle.mnum.proofs.arithmetic.shortened.Given as goal

abbrev pub invariant-loop-places : goal.invariant-loop-places
invariant-loop-places l = record {
  value : l.digits * 10 ^ (18 - l.places) ≡ l.fn.digits * 10 ^ (18 - l.fn.places);
  below : l.digits < 10 ^ 18;
  places : l.places ≤ 18;
}

abbrev pub decreases-loop-places : goal.decreases-loop-places
decreases-loop-places l = l.places
