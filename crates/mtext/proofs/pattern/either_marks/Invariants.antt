-- SPDX-License-Identifier: Apache-2.0
use Rattle.mtext.proofs.TextWords.{◌≡◌, ◌<◌, ℕ, length, get_or, false}
use Rattle.std.specs.Prelude.{◌||◌}
use Rattle.mtext.proofs.pattern.either_marks.Given as goal

abbrev pub invariant-loop-place : goal.invariant-loop-place
invariant-loop-place l = record {
  size : length l.marks.items ≡ l.place;
  each : (k : ℕ) → k < l.place → get_or l.marks.items k false ≡ (get_or l.one k false || get_or l.other k false);
}
