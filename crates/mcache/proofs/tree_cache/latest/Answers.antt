-- SPDX-License-Identifier: Apache-2.0
use Rattle.mcache.proofs.CacheWords.{◌∙◌, sym, same_text}
use Rattle.mcache.proofs.Shelves.{found_first}
use Rattle.mcache.proofs.tree_cache.latest.Goals as goal

pub returns-then-eq : goal.returns-then-eq
returns-then-eq g c =
    let first = rw c.in-Some.is at c.peek_mru.ensures in
    let same = same_text c.as_slice.result.now c.args.text.now (sym c.if-eq.true ∙ c.eq.ensures) in
    found_first c.args.tree_cache.now.entries c.args.text.now c.in-Some.key.now c.in-Some.tree.now c.clone.result c.ok.result (sym first) (sym c.as_slice.ensures.value ∙ same) c.clone.ensures.cases c.ok.ensures.value
