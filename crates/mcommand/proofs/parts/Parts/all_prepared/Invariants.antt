-- SPDX-License-Identifier: Apache-2.0
use Rattle.mcommand.proofs.CommandWords.{◌≤◌, [], map, drop, Result, Vec, Global, target_tree, Code, Parts, Prepared, Does, prepared_view}
use Rattle.mmeaning.specs.LineMeaning as meaning
use Rattle.mcommand.proofs.parts.Parts.all_prepared.Given as goal

abbrev pub invariant-loop-target : goal.invariant-loop-target
invariant-loop-target g l =
    (r : Result (Vec Prepared Global) Code) (p : Parts _) → Does g.S.NodeStore (λ i. meaning.all_prepared i (map prepared_view l.all.items) (map target_tree (drop l.target-index l.targets))) (λ (ps : Vec Prepared Global). map prepared_view ps.items) l.self r p
    → Does g.S.NodeStore (λ i. meaning.all_prepared i [] (map target_tree l.targets)) (λ (ps : Vec Prepared Global). map prepared_view ps.items) l.fn.self r p
