-- SPDX-License-Identifier: Apache-2.0
use Rattle.mnodes.proofs.Words.{◌≡◌, IfOk, Some, ap, sym, subst, ◌∙◌, get, IsAt, IsGapFor, AreHeld}
use Rattle.mnodes.proofs.SortedEntries.{get_held}
use Rattle.mnodes.proofs.EntryPlaces.{find_at, find_in_gap}
use Rattle.mnodes.proofs.plain.PlainNodeStore.get.Goals as goal
use Rattle.mnodes.proofs.plain.PlainNodeStore.get.Goals.{in-Ok+in_ok-copy-in-Ok, in-Err}
use Rattle.mnodes.proofs.Holding.{entries_held}

pub returns-clause-found : goal.returns-clause-found
returns-clause-found c u =
    let node = c.args.key.now in
    let had = sym (get_held c.self.inside.entries.items node) ∙ ap (λ g. get g node) c.self.view_is in
    elim c.match-search.branch [
      | in-Ok+in_ok-copy-in-Ok w ↦
          let at = subst (λ es. IsAt es node w.in-Ok.at) c.deref.ensures.value w.in-Ok.ensures.found in
          subst (λ r. IfOk r (λ text. text ≡ get c.args.self.now node)) (sym w.result-is)
          (ap Some (w.in_ok-copy-in-Ok.ensures ∙ ap (λ e. e.text) w.index.ensures) ∙ sym (find_at c.self.inside.entries.items c.self.invariant.sorted node w.in-Ok.at at w.index.result.now) ∙ had)
      | in-Err w ↦
          let gap = subst (λ es. IsGapFor es node w.in-Err.field-0) c.deref.ensures.value w.in-Err.ensures.absent in
          subst (λ r. IfOk r (λ text. text ≡ get c.args.self.now node)) (sym w.result-is)
          (sym (find_in_gap c.self.inside.entries.items node w.in-Err.field-0 gap) ∙ had)
    ]

pub returns-clause-held : goal.returns-clause-held
returns-clause-held c u = subst AreHeld c.self.view_is (entries_held c.self.inside.entries.items c.self.invariant)

pub returns-in_err-copy-in-Ok-clause-held : goal.returns-in_err-copy-in-Ok-clause-held
returns-in_err-copy-in-Ok-clause-held c u = subst AreHeld c.self.view_is (entries_held c.self.inside.entries.items c.self.invariant)
