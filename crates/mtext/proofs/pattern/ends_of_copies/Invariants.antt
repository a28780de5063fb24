-- SPDX-License-Identifier: Apache-2.0
use Rattle.mtext.proofs.TextWords.{◌≡◌, ◌<◌, ℕ, length, get_or, Decides, false, copies, count_of, no_copies, AreCopiesBefore, IsEnd}
use Rattle.mtext.proofs.pattern.ends_of_copies.Given as goal

abbrev pub invariant-loop-place : goal.invariant-loop-place
invariant-loop-place l = record {
  size : length l.ends.items ≡ l._place;
  each : (k : ℕ) → k < l._place → Decides (get_or l.ends.items k false) (IsEnd l.text (count_of l.count) (copies l.string) l.starts k);
  taken : length l.known.items ≡ l._place;
  before : (k : ℕ) → k < l._place → AreCopiesBefore l.text l.string l.count.least l.starts k (get_or l.known.items k no_copies);
}
