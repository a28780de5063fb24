-- SPDX-License-Identifier: Apache-2.0
use Rattle.mcommand.proofs.CommandWords.{◌≤◌, [], map, drop, Result, Vec, Global, reference_tree, Code, standing_of, Parts, Does, MayTake}
use Rattle.mmeaning.specs.Locking as meaning
use Rattle.mlock.specs.declared.name.LockName.{LockName}
use Rattle.mcommand.proofs.parts.Parts.lock_names.Given as goal

abbrev pub invariant-loop-reference : goal.invariant-loop-reference
invariant-loop-reference g l = record {
  may_take : MayTake (standing_of l.self.eval) l.names.items;
  leads : (r : Result (Vec LockName Global) Code) (p : Parts _) → Does g.S.NodeStore (λ i. meaning.lock_names i l.names.items (map reference_tree (drop l.reference-index l.references))) (λ (ns : Vec LockName Global). ns.items) l.self r p
      → Does g.S.NodeStore (λ i. meaning.lock_names i [] (map reference_tree l.references)) (λ (ns : Vec LockName Global). ns.items) l.fn.self r p;
}
