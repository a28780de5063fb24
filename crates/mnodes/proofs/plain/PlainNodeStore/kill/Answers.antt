-- SPDX-License-Identifier: Apache-2.0
use Rattle.mnodes.proofs.Words.{◌≤◌, length, ap, sym, subst, ◌∙◌, without_subtree, AreEntries, held}
use Rattle.mnodes.proofs.EntryPlaces.{same_place}
use Rattle.mnodes.proofs.Subtrees.{in_turn, are_left, held_left}
use Rattle.mnodes.proofs.plain.PlainNodeStore.kill.Goals as goal

pub drain-requires-clause-start_le_end : goal.drain-requires-clause-start_le_end
drain-requires-clause-start_le_end c =
    let from = same_place c.self.inside.entries.items _ _ _ _ c.deref.ensures.value c.as_bytes.ensures.bytes c.place_of-from.ensures.place in
    let to = same_place c.self.inside.entries.items _ _ _ _ c.deref-2.ensures.value c.deref-3.ensures.value c.place_of-to.ensures.place in
    in_turn c.self.inside.entries.items c.self.invariant c.args.key.now c.as_bytes.ensures.stored c.in_ok-end.end.items c.in_ok-end.ensures.subtree _ _ from to
    (subst (λ es. c.place_of-from.result ≤ length es) c.deref.ensures.value c.place_of-from.ensures.bound)

pub invariant_of-self : goal.invariant_of-self
invariant_of-self c =
    let from = same_place c.self.inside.entries.items _ _ _ _ c.deref.ensures.value c.as_bytes.ensures.bytes c.place_of-from.ensures.place in
    let to = same_place c.self.inside.entries.items _ _ _ _ c.deref-2.ensures.value c.deref-3.ensures.value c.place_of-to.ensures.place in
    subst AreEntries (sym (c.drop.ensures.items ∙ c.drain.ensures.kept))
    (are_left c.self.inside.entries.items c.self.invariant c.args.key.now c.as_bytes.ensures.stored c.in_ok-end.end.items c.in_ok-end.ensures.subtree _ _ from to
    (subst (λ es. c.place_of-from.result ≤ length es) c.deref.ensures.value c.place_of-from.ensures.bound))

pub returns-clause-killed : goal.returns-clause-killed
returns-clause-killed c u =
    let from = same_place c.self.inside.entries.items _ _ _ _ c.deref.ensures.value c.as_bytes.ensures.bytes c.place_of-from.ensures.place in
    let to = same_place c.self.inside.entries.items _ _ _ _ c.deref-2.ensures.value c.deref-3.ensures.value c.place_of-to.ensures.place in
    ap held (c.drop.ensures.items ∙ c.drain.ensures.kept)
    ∙ held_left c.self.inside.entries.items c.self.invariant c.args.key.now c.as_bytes.ensures.stored c.in_ok-end.end.items c.in_ok-end.ensures.subtree _ _ from to
    (subst (λ es. c.place_of-from.result ≤ length es) c.deref.ensures.value c.place_of-from.ensures.bound)
    ∙ ap (λ g. without_subtree g c.args.key.now) c.self.view_is
