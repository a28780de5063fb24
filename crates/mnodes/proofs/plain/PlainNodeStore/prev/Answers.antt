-- SPDX-License-Identifier: Apache-2.0
use Rattle.mnodes.proofs.Words.{◌-◌, length, slice_get, take, ap, subst, ◌∙◌, previous_key, key_within, IsPlaceOf, AreHeld}
use Rattle.mnodes.proofs.EntryRanges.{previous_found}
use Rattle.mnodes.proofs.Holding.{entries_held}
use Rattle.mnodes.proofs.plain.PlainNodeStore.prev.Goals as goal

pub returns-clause-found : goal.returns-clause-found
returns-clause-found c u =
    c.in_ok-key_within.ensures ∙ ap (key_within c.args.low.now c.args.high.now) (c.last-last.ensures.value ∙ ap (λ es. slice_get (take c.place_of-place.result es) (length (take c.place_of-place.result es) - 1)) c.deref-2.ensures.value)
    ∙ previous_found c.args.low.now c.args.high.now c.self.inside.entries.items c.self.invariant c.place_of-place.result (subst (λ es. IsPlaceOf es c.args.high.now c.place_of-place.result) c.deref.ensures.value c.place_of-place.ensures.place)
    ∙ ap (λ g. previous_key g c.args.low.now c.args.high.now) c.self.view_is

pub returns-clause-held : goal.returns-clause-held
returns-clause-held c u = subst AreHeld c.self.view_is (entries_held c.self.inside.entries.items c.self.invariant)

pub returns-in_err-key_within-clause-held : goal.returns-in_err-key_within-clause-held
returns-in_err-key_within-clause-held c u = subst AreHeld c.self.view_is (entries_held c.self.inside.entries.items c.self.invariant)
