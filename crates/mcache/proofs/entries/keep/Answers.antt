-- SPDX-License-Identifier: Apache-2.0
use Rattle.mcache.proofs.CacheWords.{subst, sym, inl, IsInOr}
use Rattle.mcache.proofs.Shelves.{either}
use Rattle.mcache.proofs.EntryLists.{put_in}
use Rattle.mcache.proofs.entries.keep.Goals as goal

pub returns-clause-kept : goal.returns-clause-kept
returns-clause-kept c =
    let here = put_in c.args.entries.now c.args.key.now c.args.text.now c.in-Ok.key c.in-Ok-copy.text (c.in-Ok.ensures.items_if_clones_equal (λ x y e. e)) c.in-Ok-copy.ensures in
    either c.put.result c.put.ensures.entries c.put.ensures.err
    (λ is. subst (λ m. IsInOr m.entries c.args.entries.now.entries c.args.key.now c.args.text.now) (sym is) here)
    (λ is. subst (λ m. IsInOr m.entries c.args.entries.now.entries c.args.key.now c.args.text.now) (sym is) (λ e at. inl at))
