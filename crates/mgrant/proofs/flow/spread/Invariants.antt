-- SPDX-License-Identifier: Apache-2.0
use Rattle.mgrant.proofs.GrantWords.{◌≡◌, ◌<◌, ◌≤◌, ℕ, true, false, length, get_or, vec_len, list_any, leads, IsStage}

abbrev pub invariant-loop-turn : Rattle.mgrant.proofs.flow.spread.Given.invariant-loop-turn
invariant-loop-turn l = record {
  stage : (start : ℕ) → IsStage l.edges start l.initial.marks.items l.initial.order.items → IsStage l.edges start l.marks.items l.order.items;
  closed : (k : ℕ) → k < l.turn → (z : ℕ) → list_any (leads (get_or l.order.items k 0) z) l.edges ≡ true → get_or l.marks.items z false ≡ true;
  turned : l.turn ≤ length l.order.items;
  len : vec_len l.marks ≡ vec_len l.initial.marks;
}
