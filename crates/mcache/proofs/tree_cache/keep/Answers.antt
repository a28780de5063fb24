-- SPDX-License-Identifier: Apache-2.0
use Rattle.mcache.proofs.CacheWords.{subst, sym, inl, nat_eq, length, ◌≤◌, ◌+◌, arith, pointwise, IsWithinOr}
use Rattle.mcache.proofs.Shelves.{put_within, length_put, either}
use Rattle.mcache.proofs.tree_cache.keep.Goals as goal

pub returns-clause-within : goal.returns-clause-within
returns-clause-within g c =
    let here = put_within c.args.tree_cache.now c.args.text.now c.args.tree.now.value c.in-Ok.text c.in-Ok-clone.tree (c.in-Ok.ensures.items_if_clones_equal (λ x y e. e)) c.in-Ok-clone.ensures.cases in
    either c.put.result c.put.ensures.entries c.put.ensures.err
    (λ is. subst (λ m. IsWithinOr m.entries c.args.tree_cache.now.entries c.args.text.now c.args.tree.now.value) (sym is) here)
    (λ is. subst (λ m. IsWithinOr m.entries c.args.tree_cache.now.entries c.args.text.now c.args.tree.now.value) (sym is) (λ e at. inl at))

pub returns-clause-count : goal.returns-clause-count
returns-clause-count g c =
    either c.put.result c.put.ensures.entries c.put.ensures.err
    (λ is. subst (λ m. length m.entries ≤ length c.args.tree_cache.now.entries + 1) (sym is) (length_put (λ x y. pointwise nat_eq x.items y.items) c.args.tree_cache.now c.in-Ok.text c.in-Ok-clone.tree))
    (λ is. subst (λ m. length m.entries ≤ length c.args.tree_cache.now.entries + 1) (sym is) (omega arith))
