-- SPDX-License-Identifier: Apache-2.0
use Rattle.meval.proofs.EvalLaws.{◌∙◌, Option, Text, sym, subst, walk_view}
use Rattle.meval.proofs.EvalWords.{List}
use Rattle.mspec.specs.Access.{Read, Write}
use Rattle.mmeaning.specs.Merging.{merged}
use Rattle.meval.specs.Places.{IsOpen}
use Rattle.meval.proofs.MergeRuns.{Going, begins, begins_failed, copies_on, copy_node, fewer_left, goes_on, goes_wrong, none_left}
use Rattle.meval.proofs.eval.Eval.nodes_merged.Goals as goal

pub build-requires : goal.build-requires
build-requires g c = rw c.subscripts_of.ensures (copy_node c.args.from.now c.requires.source)

pub returns-in_err-next : goal.returns-in_err-next
returns-in_err-next g c = begins_failed (walk_view c.args.to.now) (walk_view c.args.from.now) c.in_err-next.ensures c.from_residual-in_err-next.ensures

pub loop-next-init : goal.loop-next-init
loop-next-init g c = record {
  same = c.in_ok-next.ensures.keeps.same;
  leads = (
    c.args.self.now.steps,
    (
      c.in_ok-next.ensures.keeps.fewer,
      begins (walk_view c.args.to.now) (walk_view c.args.from.now) c.in_ok-next.next c.in_ok-next.ensures,
    ),
  );
}

pub node_passed-requires-clause-above : goal.node_passed-requires-clause-above
node_passed-requires-clause-above g c = c.in_ok-above.ensures.key ∙ c.subscripts_of.ensures

pub node_passed-requires-clause-reads : goal.node_passed-requires-clause-reads
node_passed-requires-clause-reads g c =
    subst (λ b. IsOpen b Read (walk_view c.args.from.now)) (sym c.loop-next.invariant.same) c.requires.reads

pub node_passed-requires-clause-writes : goal.node_passed-requires-clause-writes
node_passed-requires-clause-writes g c =
    subst (λ b. IsOpen b Write (walk_view c.args.to.now)) (sym c.loop-next.invariant.same) c.requires.writes

pub loop-next-preserved : goal.loop-next-preserved
loop-next-preserved g c =
    let to = walk_view c.args.to.now in
    let from = walk_view c.args.from.now in
    let was =
    subst (λ (o : Option (List Text)). Going g.S.NodeStore to from c.args.self.now (merged to from) c.loop-next.self o) c.in-Some.is
    c.loop-next.invariant.leads in
    let on = goes_on to from c.in-Some.at was.0 c.in_ok-after.after was.1.0 c.in_ok-after.ensures.spent c.in_ok-after.ensures.does in
    record {
      same = c.in_ok-after.ensures.does.keeps.same ∙ c.loop-next.invariant.same;
      leads = (on.0, (on.1.0, copies_on was.1.1 on.1.1));
    }

pub loop-next-smaller : goal.loop-next-smaller
loop-next-smaller g c =
    rw c.in-Some.is (fewer_left c.in_ok-after.after _ _ c.in_ok-after.ensures.does.keeps.fewer c.in_ok-after.ensures.spent)

pub returns-in_err-after : goal.returns-in_err-after
returns-in_err-after g c =
    let to = walk_view c.args.to.now in
    let from = walk_view c.args.from.now in
    let was =
    subst (λ (o : Option (List Text)). Going g.S.NodeStore to from c.args.self.now (merged to from) c.loop-next.self o) c.in-Some.is
    c.loop-next.invariant.leads in
    was.1.1.on _ _ (goes_wrong to from c.in-Some.at was.0 c.in_err-after.ensures.does c.from_residual-in_err-after.ensures)

pub returns : goal.returns
returns g c =
    let to = walk_view c.args.to.now in
    let from = walk_view c.args.from.now in
    let was =
    subst (λ (o : Option (List Text)). Going g.S.NodeStore to from c.args.self.now (merged to from) c.loop-next.self o) c.in_default.is
    c.loop-next.invariant.leads in
    was.1.1.on _ _ (none_left to from _)
