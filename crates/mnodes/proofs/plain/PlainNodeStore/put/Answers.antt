-- SPDX-License-Identifier: Apache-2.0
use Rattle.mnodes.proofs.Words.{◌≤◌, length, refl, ap, sym, subst, ◌∙◌, is_ok, max_text, AreEntries, IsAt, IsGapFor, held, AreHeld}
use Rattle.std.specs.FinMap as finite
use Rattle.mnodes.proofs.EntryPlaces.{had_room, are_set, are_inserted, held_set, held_inserted}
use Rattle.mnodes.proofs.Holding.{entries_held}
use Rattle.mnodes.proofs.plain.PlainNodeStore.put.Goals as goal

-- the entry is there, and has another text now
pub invariant_of-self : goal.invariant_of-self
invariant_of-self c =
    let at = subst (λ es. IsAt es c.args.key.now c.in-Ok.at) c.deref.ensures.value c.in-Ok.ensures.found in
    are_set c.self.inside.entries.items c.self.invariant c.args.key.now c.in_ok-text.text c.in-Ok.at _ (ap (λ e. e.key) c.index_mut.ensures.value ∙ at.of_node c.index_mut.result.now) refl at
    (subst (λ x. length x ≤ max_text) (sym c.in_ok-text.ensures) c.requires)

pub returns-in-Ok-clause-put : goal.returns-in-Ok-clause-put
returns-in-Ok-clause-put c u =
    let at = subst (λ es. IsAt es c.args.key.now c.in-Ok.at) c.deref.ensures.value c.in-Ok.ensures.found in
    held_set c.self.inside.entries.items c.self.invariant c.args.key.now c.args.text.now c.in-Ok.at _ (ap (λ e. e.key) c.index_mut.ensures.value ∙ at.of_node c.index_mut.result.now) c.in_ok-text.ensures at
    ∙ ap (λ g. finite.insert g c.args.key.now c.args.text.now) c.self.view_is

-- a new entry is put between those before it and those after it
pub invariant_of-self-in-Continue-branch-3 : goal.invariant_of-self-in-Continue-branch-3
invariant_of-self-in-Continue-branch-3 c =
    let le = subst (λ es. c.in-Err.place ≤ length es) c.deref.ensures.value c.in-Err.ensures.bound in
    let gap = subst (λ es. IsGapFor es c.args.key.now c.in-Err.place) c.deref.ensures.value c.in-Err.ensures.absent in
    let new = c.insert.ensures.items ∙ had_room _ _ c.self.inside.entries.items (sym c.map_err.ensures.variant ∙ ap is_ok c.in_ok-map_err-in-Err.was) in
    subst AreEntries (sym new)
    (are_inserted c.self.inside.entries.items c.self.invariant c.args.key.now c.in_ok-text.text c.in-Err.place _ c.in_ok-key-in-Err.ensures.key refl le gap c.copy-in-Err.ensures.stored
    (subst (λ x. length x ≤ max_text) (sym c.in_ok-text.ensures) c.requires))

pub returns-in_ok-map_err-in-Err-clause-put : goal.returns-in_ok-map_err-in-Err-clause-put
returns-in_ok-map_err-in-Err-clause-put c u =
    let le = subst (λ es. c.in-Err.place ≤ length es) c.deref.ensures.value c.in-Err.ensures.bound in
    let gap = subst (λ es. IsGapFor es c.args.key.now c.in-Err.place) c.deref.ensures.value c.in-Err.ensures.absent in
    let new = c.insert.ensures.items ∙ had_room _ _ c.self.inside.entries.items (sym c.map_err.ensures.variant ∙ ap is_ok c.in_ok-map_err-in-Err.was) in
    ap held new
    ∙ held_inserted c.self.inside.entries.items c.self.invariant c.args.key.now c.args.text.now c.in-Err.place _ c.in_ok-key-in-Err.ensures.key c.in_ok-text.ensures le gap
    ∙ ap (λ g. finite.insert g c.args.key.now c.args.text.now) c.self.view_is

pub returns-in-Ok-clause-held : goal.returns-in-Ok-clause-held
returns-in-Ok-clause-held c u = subst AreHeld c.self.view_is (entries_held c.self.inside.entries.items c.self.invariant)

pub returns-in_ok-map_err-in-Err-clause-held : goal.returns-in_ok-map_err-in-Err-clause-held
returns-in_ok-map_err-in-Err-clause-held c u = subst AreHeld c.self.view_is (entries_held c.self.inside.entries.items c.self.invariant)
