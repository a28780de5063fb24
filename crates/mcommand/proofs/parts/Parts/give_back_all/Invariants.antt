-- SPDX-License-Identifier: Apache-2.0
use Rattle.mcommand.proofs.CommandWords.{◌≡◌, drop, Ok, Parts, Does}
use Rattle.mmeaning.specs.Locking as meaning
use Rattle.mcommand.proofs.parts.Parts.give_back_all.Given as goal

abbrev pub invariant-loop-name : goal.invariant-loop-name
invariant-loop-name g l = record {
  eval : l.self.eval ≡ l.fn.self.eval;
  leads : (p : Parts _) → Does g.S.NodeStore (λ i. meaning.given_back_all (drop l.name-index l.names)) (λ (u : Unit {0}). u) l.self (Ok tt) p
      → Does g.S.NodeStore (λ i. meaning.given_back_all l.names) (λ (u : Unit {0}). u) l.fn.self (Ok tt) p;
}
