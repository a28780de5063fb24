-- SPDX-License-Identifier: Apache-2.0
-- An operator with the same number to the right, again and again.
use Rattle.meval.proofs.EvalWords.{◌≡◌, ℕ, zero, suc, ◌<◌, ◌≤◌, Option, Result, Ok, Err, refl, sym, ap, ◌∙◌, subst, arith, ℤ, Zover, number_text, Act, ◌>>=◌}
use Rattle.meval.proofs.EvalWords.{charge, give, give_some, binary, Yields, units, Num, Ghosts, fault_of, Code, Eval, Evaluates, Leads, Text}
use Rattle.std.specs.Prelude.{◌-◌}
use Rattle.mmeaning.specs.Operators.{repeated}
use Rattle.mvalue.proofs.Numbers.{number_again}
use Rattle.moperator.specs.Calculations.{operator_tree, calculated}
use Rattle.moperator.specs.declared.arithmetic.Arithmetic.{Arithmetic}
use Rattle.meval.proofs.Calls.{evaluates_then, evaluates_failed, evaluates_gives, evaluates_yielded}
use Rattle.meval.proofs.Chains.{left_known}

-- the operator between two numbers
abbrev once : Arithmetic → Num → Text → Act Text
once o right x = binary (operator_tree o) x (number_text (units right))

-- and so often
abbrev often : Arithmetic → Num → ℕ → Text → Act Text
often o right n x = repeated (binary (operator_tree o)) (number_text (units right)) n x

both_known : (o : Arithmetic) (right left : Num) → ◌≡◌ {A = Act Text} (once o right (number_text (units left))) (calculated o (units left) (units right))
both_known o right left =
    left_known o left (number_text (units right)) ∙ ap (λ (x : Option ℤ). give_some Zover x >>= calculated o (units left)) (number_again right)

module _ {S : Type 0} {g : Ghosts S} (o : Arithmetic) (right : Num) where
  applied : {X : Type 0} {f : X → Text} {e : Eval S} {r : Result X Code} (left : Num) → Yields {E = Code} fault_of (calculated o (units left) (units right)) f r → Evaluates g (λ i. once o right (number_text (units left))) f e r e
  applied {f = f} {r = r} left y = evaluates_yielded (subst (λ (act : Act Text). Yields {E = Code} fault_of act f r) (sym (both_known o right left)) y)

  -- what is left of it after one time more
  pub once_more : {old mid : Eval S} (rest : ℕ) (left next : Num) → 0 < rest → Evaluates g (λ i. charge) (λ (u : Unit {0}). u) old (Ok tt) mid
      → Yields {E = Code} fault_of (calculated o (units left) (units right)) (λ (u : Unit {0}). number_text (units next)) (Ok tt)
      → Leads g (λ i. often o right rest (number_text (units left))) old (λ i. often o right (rest - 1) (number_text (units next))) mid
  once_more zero left next more charged given = absurd (omega arith)
  once_more {old = old} {mid = mid} (suc n) left next more charged given =
      let same : n ≡ suc n - 1 = omega arith in
      subst (λ (m : ℕ). Leads g (λ i. often o right (suc n) (number_text (units left))) old (λ i. often o right m (number_text (units next))) mid) same
      (record { on = λ r new k. evaluates_then (λ i _. once o right (number_text (units left)) >>= often o right n) charged (evaluates_then (λ i z. often o right n z) (applied left given) k) })

  -- no step is left for it
  pub not_charged : {X : Type 0} {f : X → Text} {old new : Eval S} (rest : ℕ) (left : Num) (c : Code) → 0 < rest → Evaluates g (λ i. charge) (λ (u : Unit {0}). u) old (Err c) new
      → Evaluates g (λ i. often o right rest (number_text (units left))) f old (Err c) new
  not_charged zero left c more refused = absurd (omega arith)
  not_charged (suc n) left c more refused = evaluates_failed (λ i _. once o right (number_text (units left)) >>= often o right n) refused

  -- the operator gives no number
  pub not_applied : {X Y : Type 0} {f : X → Text} {j : Y → Text} {old mid : Eval S} (rest : ℕ) (left : Num) (c : Code) → 0 < rest → Evaluates g (λ i. charge) (λ (u : Unit {0}). u) old (Ok tt) mid
      → Yields {E = Code} fault_of (calculated o (units left) (units right)) j (Err c) → Evaluates g (λ i. often o right rest (number_text (units left))) f old (Err c) mid
  not_applied zero left c more charged refused = absurd (omega arith)
  not_applied (suc n) left c more charged refused =
      evaluates_then (λ i _. once o right (number_text (units left)) >>= often o right n) charged (evaluates_failed (λ i z. often o right n z) (applied left refused))

  -- it was done as often as it was to be
  pub often_enough : {e : Eval S} (rest : ℕ) (left : Num) → rest ≤ 0 → Evaluates g (λ i. often o right rest (number_text (units left))) (λ (u : Unit {0}). number_text (units left)) e (Ok tt) e
  often_enough zero left none = evaluates_gives (number_text (units left)) (λ (u : Unit {0}). number_text (units left)) tt refl
  often_enough (suc n) left none = absurd (omega arith)
