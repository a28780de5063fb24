-- SPDX-License-Identifier: Apache-2.0
use Rattle.meval.proofs.EvalLaws.{evaluates_then, evaluates_stopped, evaluates_yielded, walk_view}
use Rattle.meval.proofs.EvalWords.{cond, give}
use Rattle.mmeaning.specs.Merging.{merged}
use Rattle.meval.proofs.MergeRuns.{after_one, after_apart, copy_node, nothing_copied, something_copied}
use Rattle.meval.proofs.eval.Eval.copied.Goals as goal

pub build-requires : goal.build-requires
build-requires g c = rw c.subscripts_of.ensures (copy_node c.args.to.now c.requires.target)

pub build-requires-2 : goal.build-requires-2
build-requires-2 g c = rw c.subscripts_of-2.ensures (copy_node c.args.from.now c.requires.source)

pub returns-in_err-copies : goal.returns-in_err-copies
returns-in_err-copies g c =
    let refused = rw (c.in_ok-below.ensures.key, c.subscripts_of.ensures, c.in_ok-above.ensures.key, c.subscripts_of-2.ensures) at c.in_err-copies.ensures in
    evaluates_then (λ i one. after_one (walk_view c.args.to.now) (walk_view c.args.from.now) one) c.of_one-one.ensures
    (evaluates_stopped (λ i copies. after_apart (walk_view c.args.to.now) (walk_view c.args.from.now) copies) (evaluates_yielded refused)
    c.from_residual-in_err-copies.ensures)

pub returns-in_err-refer_to : goal.returns-in_err-refer_to
returns-in_err-refer_to g c =
    let passed = rw (c.in_ok-below.ensures.key, c.subscripts_of.ensures, c.in_ok-above.ensures.key, c.subscripts_of-2.ensures) at c.in_ok-copies.ensures in
    evaluates_then (λ i one. after_one (walk_view c.args.to.now) (walk_view c.args.from.now) one) c.of_one-one.ensures
    (evaluates_then (λ i copies. after_apart (walk_view c.args.to.now) (walk_view c.args.from.now) copies) (evaluates_yielded passed)
    (evaluates_stopped (λ i _. cond c.in_ok-copies.copies (merged (walk_view c.args.to.now) (walk_view c.args.from.now)) (give tt))
    c.in_err-refer_to.ensures c.from_residual-in_err-refer_to.ensures))

pub returns-then-not-copies : goal.returns-then-not-copies
returns-then-not-copies g c =
    let passed = rw (c.in_ok-below.ensures.key, c.subscripts_of.ensures, c.in_ok-above.ensures.key, c.subscripts_of-2.ensures) at c.in_ok-copies.ensures in
    evaluates_then (λ i one. after_one (walk_view c.args.to.now) (walk_view c.args.from.now) one) c.of_one-one.ensures
    (evaluates_then (λ i copies. after_apart (walk_view c.args.to.now) (walk_view c.args.from.now) copies) (evaluates_yielded passed)
    (evaluates_then (λ i _. cond c.in_ok-copies.copies (merged (walk_view c.args.to.now) (walk_view c.args.from.now)) (give tt)) c.in_ok-refer_to.ensures
    (nothing_copied c.in_ok-copies.copies (merged (walk_view c.args.to.now) (walk_view c.args.from.now)) c.if-not-copies.true)))

pub returns : goal.returns
returns g c =
    let passed = rw (c.in_ok-below.ensures.key, c.subscripts_of.ensures, c.in_ok-above.ensures.key, c.subscripts_of-2.ensures) at c.in_ok-copies.ensures in
    evaluates_then (λ i one. after_one (walk_view c.args.to.now) (walk_view c.args.from.now) one) c.of_one-one.ensures
    (evaluates_then (λ i copies. after_apart (walk_view c.args.to.now) (walk_view c.args.from.now) copies) (evaluates_yielded passed)
    (evaluates_then (λ i _. cond c.in_ok-copies.copies (merged (walk_view c.args.to.now) (walk_view c.args.from.now)) (give tt)) c.in_ok-refer_to.ensures
    (something_copied c.in_ok-copies.copies (merged (walk_view c.args.to.now) (walk_view c.args.from.now)) c.if-not-copies.false c.nodes_merged.ensures)))
