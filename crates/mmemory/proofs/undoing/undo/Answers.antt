-- SPDX-License-Identifier: Apache-2.0
use Rattle.mmemory.proofs.MemoryLaws.{◌≡◌, map, set, get_or, sym, ap, ◌∙◌, arith, map-set, take-map, plain, no_plain, undone_step, shown_at}
use Rattle.mmemory.proofs.undoing.undo.Goals as goal

pub returns-then-tree-len : goal.returns-then-tree-len
returns-then-tree-len c =
    let trees = c.args.trees.now.items in
    let t = c.in-Step.tree in
    let low = c.if-tree-len.true in
    let len = c.len.ensures in
    let here : get_or (map plain trees) t no_plain ≡ plain c.index_mut.result.now = shown_at plain trees t no_plain c.index_mut.result.now (omega arith) c.index_mut.ensures.value in
    rw c.in-Step.is (λ i. record { trees = (map-set plain trees t c.undo.new.self ∙ ap (set (map plain trees) t) (c.undo.ensures ∙ ap (undone_step c.in-Step.step) (sym here))) i; version = c.args.version.now })

pub returns-then-tree-len-2 : goal.returns-then-tree-len-2
returns-then-tree-len-2 c =
    let trees = c.args.trees.now.items in
    rw c.in-Put.is (λ i. record { trees = (map-set plain trees c.in-Put.tree c.into_inner.result ∙ ap (λ x. set (map plain trees) c.in-Put.tree (plain x)) c.into_inner.ensures) i; version = c.args.version.now })

pub returns-in-Shorten : goal.returns-in-Shorten
returns-in-Shorten c =
    let trees = c.args.trees.now.items in
    rw c.in-Shorten.is (λ i. record { trees = (ap (map plain) c.truncate.ensures.items ∙ sym (take-map plain c.in-Shorten.len trees)) i; version = c.args.version.now })
