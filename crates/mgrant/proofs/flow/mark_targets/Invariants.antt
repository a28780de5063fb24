-- SPDX-License-Identifier: Apache-2.0
use Rattle.mgrant.proofs.GrantWords.{◌≡◌, ℕ, List, All, true, false, take, get_or, vec_len, Leads, IsStage, IsMore, Edge}

abbrev pub invariant-loop-step : Rattle.mgrant.proofs.flow.mark_targets.Given.invariant-loop-step
invariant-loop-step l = record {
  stage : (edges : List Edge) (start : ℕ) → IsStage edges start l.initial.marks.items l.initial.order.items → All (λ e. Leads edges start e.target) l.steps → IsStage edges start l.marks.items l.order.items;
  more : IsMore l.initial.marks.items l.initial.order.items l.marks.items l.order.items;
  marked : All (λ e. get_or l.marks.items e.target false ≡ true) (take l.step-index l.steps);
  len : vec_len l.marks ≡ vec_len l.initial.marks;
}
