-- SPDX-License-Identifier: Apache-2.0
use Rattle.mglobal.proofs.GlobalWords.{ap, sym, ◌∙◌, Node, key_bytes, subtree_end, significant_digits}
use Rattle.mglobal.proofs.Searches.{node_at, backward_between, backward_end_between}
use Rattle.mglobal.proofs.seeking.bounds_before.Goals as goal

pub returns-then-ends_empty-clause-bounds : goal.returns-then-ends_empty-clause-bounds
returns-then-ends_empty-clause-bounds c =
    let n : Node = record { account = c.args.account.now; name = c.args.name.now; subscripts = c.args.subs.now } in
    let present = c.in_ok-present.ensures.key ∙ ap (node_at n) c.without_empty.ensures.front in
    backward_end_between n c.requires.subs _ _ (sym c.if-ends_empty.ensures) (c.into_bytes-low.ensures ∙ ap (key_bytes significant_digits) c.requires.root)
    (c.in_ok-end.ensures ∙ ap (λ m. subtree_end (key_bytes significant_digits m)) present)

pub returns-clause-bounds : goal.returns-clause-bounds
returns-clause-bounds c =
    let n : Node = record { account = c.args.account.now; name = c.args.name.now; subscripts = c.args.subs.now } in
    let present = c.in_ok-present.ensures.key ∙ ap (node_at n) c.without_empty.ensures.front in
    backward_between n c.requires.subs _ _ (sym c.if-ends_empty.ensures) (c.into_bytes-low.ensures ∙ ap (key_bytes significant_digits) c.requires.root)
    (c.into_bytes-high.ensures ∙ ap (key_bytes significant_digits) present)
