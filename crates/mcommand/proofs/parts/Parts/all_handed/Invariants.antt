-- SPDX-License-Identifier: Apache-2.0
use Rattle.mcommand.proofs.CommandWords.{◌≤◌, [], map, drop, Result, Vec, Global, Code, Parts, Does}
use Rattle.mlocal.specs.Bindings.{binding_of}
use Rattle.mlocal.specs.declared.binding.Binding.{Binding}
use Rattle.mgrammar.specs.Grammar.{actuals_of}
use Rattle.mtree.specs.Tree.{actual_tree}
use Rattle.mmeaning.specs.Parameters as meaning
use Rattle.mcommand.proofs.parts.Parts.all_handed.Given as goal

abbrev pub invariant-loop-actual : goal.invariant-loop-actual
invariant-loop-actual g l =
    (r : Result (Vec Binding Global) Code) (p : Parts _)
    → Does g.S.NodeStore (λ i. meaning.all_handed i (map binding_of l.bindings.items) (actuals_of (map actual_tree (drop l.actual-index l.actuals)))) (λ (bs : Vec Binding Global). map binding_of bs.items) l.self r p
    → Does g.S.NodeStore (λ i. meaning.all_handed i [] (actuals_of (map actual_tree l.actuals))) (λ (bs : Vec Binding Global). map binding_of bs.items) l.fn.self r p
