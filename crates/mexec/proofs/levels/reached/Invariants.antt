-- SPDX-License-Identifier: Apache-2.0
use Rattle.mexec.proofs.ExecWords.{◌≡◌, ◌≤◌, ◌-◌, standing_of, Option, ℕ, length, drop, Result, Code, Parts, DoesAt, reached}
use Rattle.mexec.proofs.levels.reached.Given as goal

abbrev pub invariant-loop-at : goal.invariant-loop-at
invariant-loop-at g l = record {
  same : standing_of l.parts.eval ≡ standing_of l.fn.parts.eval;
  leads : (r : Result (Option ℕ) Code) (p : Parts _) → DoesAt g.S.NodeStore (λ a n. reached l.dots l.at (drop l.at l.lines)) (λ (found : Option ℕ). found) l.parts r p
      → DoesAt g.S.NodeStore (λ a n. reached l.dots l.from (drop l.from l.lines)) (λ (found : Option ℕ). found) l.fn.parts r p;
}

abbrev pub decreases-loop-at : goal.decreases-loop-at
decreases-loop-at g l = length l.lines - l.at
