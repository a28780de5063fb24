-- SPDX-License-Identifier: Apache-2.0
use Rattle.mtext.proofs.TextWords.{◌≡◌, ◌<◌, ℕ, length, get_or, Decides, false, is_in_any, members, codes_of, count_of, IsEnd}
use Rattle.mtext.proofs.PatternMembers.{IsLatest, IsRun}
use Rattle.mtext.proofs.pattern.ends_of_members.Given as goal

abbrev pub invariant-loop-place : goal.invariant-loop-place
invariant-loop-place l = record {
  size : length l.ends.items ≡ l.place;
  each : (k : ℕ) → k < l.place → Decides (get_or l.ends.items k false) (IsEnd l.text (count_of l.count) (members (codes_of l.codes)) l.starts k);
  run : IsRun (is_in_any (codes_of l.codes)) l.text l.first l.place;
  latest : IsLatest l.starts l.count.least l.place l.latest;
}
