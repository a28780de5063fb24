-- SPDX-License-Identifier: Apache-2.0
use Rattle.mglobal.proofs.GlobalWords.{[], ◌∷◌, ◌++◌, ap, ◌∙◌, Node, key_bytes, subtree_end, significant_digits}
use Rattle.mglobal.proofs.Searches.{node_at, forward_between}
use Rattle.mglobal.proofs.seeking.bounds_after.Goals as goal

pub returns-clause-bounds : goal.returns-clause-bounds
returns-clause-bounds c =
    let n : Node = record { account = c.args.account.now; name = c.args.name.now; subscripts = c.args.subs.now } in
    let present = c.in_ok-present.ensures.key ∙ ap (node_at n) c.without_empty.ensures.front in
    forward_between n c.requires.subs _ _ (c.in_ok-low.ensures ∙ ap (λ m. key_bytes significant_digits m ++ 0 ∷ []) present)
    (c.in_ok-high.ensures ∙ ap (λ m. subtree_end (key_bytes significant_digits m)) c.requires.root)
