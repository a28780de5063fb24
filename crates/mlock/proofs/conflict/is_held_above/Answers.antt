-- SPDX-License-Identifier: Apache-2.0
use Rattle.mlock.proofs.LockWords.{◌≡◌, ◌+◌, ◌<◌, ◌≤◌, ◌⊎◌, inl, inr, ℕ, false, length, ap, sym, ◌∙◌, subst, arith, get, cases_eq, name_eq, name_above}
use Rattle.mlock.proofs.LockWords.{is_other}
use Rattle.mlock.proofs.Above.{above_next}
use Rattle.mlock.proofs.conflict.is_held_above.Goals as goal

-- one more, from the end down, that is so
next : (P : ℕ → Type 0) (low high end : ℕ) → high ≡ low + 1 → ((i : ℕ) → high ≤ i → i < end → P i) → P low → (i : ℕ) → low ≤ i → i < end → P i
next P low high end one all here i from below = by_test (cases_eq low i)
  where
    by_test : (low ≡ i) ⊎ (low ≡ i → ⊥) → P i
    by_test (inl same) = subst P same here
    by_test (inr other) = all i (grind (arith, one, other, from)) below

pub returns-then-is_others-clause-yes : goal.returns-then-is_others-clause-yes
returns-then-is_others-clause-yes c told =
    let above = above_next c.args.name.now c.loop-above.below c.in-Some.above c.loop-above.invariant.begins c.in-Some.ensures in
    (length c.in-Some.above.node.subscripts, ap (λ k. is_other c.args.terminal (get name_eq c.args.holdings.now k)) (sym above.0) ∙ sym c.is_others.ensures ∙ c.if-is_others.true)

pub loop-above-preserved : goal.loop-above-preserved
loop-above-preserved c =
    let above = above_next c.args.name.now c.loop-above.below c.in-Some.above c.loop-above.invariant.begins c.in-Some.ensures in
    record {
      begins = above.0;
      free = next (λ i. is_other c.args.terminal (get name_eq c.args.holdings.now (name_above i c.args.name.now)) ≡ false)
          (length c.in-Some.above.node.subscripts) (length c.loop-above.below.node.subscripts) (length c.args.name.now.node.subscripts) above.1 c.loop-above.invariant.free
          (ap (λ k. is_other c.args.terminal (get name_eq c.args.holdings.now k)) (sym above.0) ∙ sym c.is_others.ensures ∙ c.if-is_others.false);
    }
