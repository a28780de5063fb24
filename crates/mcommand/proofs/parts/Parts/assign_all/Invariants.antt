-- SPDX-License-Identifier: Apache-2.0
use Rattle.mcommand.proofs.CommandWords.{◌≡◌, ◌≤◌, ◌++◌, List, map, Result, Code, Parts, Prepared, Does, prepared_view}
use Rattle.mmeaning.specs.LineMeaning as meaning
use Rattle.mcommand.proofs.parts.Parts.assign_all.Given as goal

abbrev pub invariant-loop-prepared : goal.invariant-loop-prepared
invariant-loop-prepared g l =
    (rest : List Prepared) → l.fn.all.items ≡ l.yielded ++ rest → (r : Result (Unit {0}) Code) (p : Parts _) → Does g.S.NodeStore (λ i. meaning.all_assigned l.value (map prepared_view rest)) (λ (u : Unit {0}). u) l.self r p
    → Does g.S.NodeStore (λ i. meaning.all_assigned l.value (map prepared_view l.fn.all.items)) (λ (u : Unit {0}). u) l.fn.self r p
