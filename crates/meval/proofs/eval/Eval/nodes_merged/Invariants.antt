-- SPDX-License-Identifier: Apache-2.0
use Rattle.mmeaning.specs.Merging.{merged}
use Rattle.meval.proofs.EvalWords.{◌≡◌, standing_of, walk_view}
use Rattle.meval.proofs.MergeRuns.{Going, left}
use Rattle.meval.proofs.eval.Eval.nodes_merged.Given as goal

abbrev pub invariant-loop-next : goal.invariant-loop-next
invariant-loop-next g l = record {
  same : standing_of l.self ≡ standing_of l.fn.self;
  leads : Going g.S.NodeStore (walk_view l.to) (walk_view l.from) l.fn.self (merged (walk_view l.to) (walk_view l.from)) l.self l.next;
}

abbrev pub decreases-loop-next : goal.decreases-loop-next
decreases-loop-next g l = left l.next l.self.steps
