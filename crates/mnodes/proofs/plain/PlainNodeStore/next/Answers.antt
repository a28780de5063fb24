-- SPDX-License-Identifier: Apache-2.0
use Rattle.mnodes.proofs.Words.{◌-◌, length, slice_get, take, drop, ap, subst, ◌∙◌, next_key, key_within, IsPlaceOf, AreHeld}
use Rattle.mnodes.proofs.EntryRanges.{next_found, first_of_rest}
use Rattle.mnodes.proofs.Holding.{entries_held}
use Rattle.mnodes.proofs.plain.PlainNodeStore.next.Goals as goal

pub returns-clause-found : goal.returns-clause-found
returns-clause-found c u =
    let place = c.place_of-place.result in
    c.in_ok-key_within.ensures
    ∙ ap (key_within c.args.low.now c.args.high.now) (c.first-first.ensures.value ∙ ap (λ es. slice_get (take (length es - place) (drop place es)) 0) c.deref-2.ensures.value ∙ first_of_rest c.self.inside.entries.items place)
    ∙ next_found c.args.low.now c.args.high.now c.self.inside.entries.items c.self.invariant place (subst (λ es. IsPlaceOf es c.args.low.now place) c.deref.ensures.value c.place_of-place.ensures.place)
    ∙ ap (λ g. next_key g c.args.low.now c.args.high.now) c.self.view_is

pub returns-clause-held : goal.returns-clause-held
returns-clause-held c u = subst AreHeld c.self.view_is (entries_held c.self.inside.entries.items c.self.invariant)

pub returns-in_err-key_within-clause-held : goal.returns-in_err-key_within-clause-held
returns-in_err-key_within-clause-held c u = subst AreHeld c.self.view_is (entries_held c.self.inside.entries.items c.self.invariant)
