-- SPDX-License-Identifier: Apache-2.0
use Rattle.mlocal.proofs.LocalLaws.{[], ◌∷◌, bottom_of, refl, ap, ◌∙◌, At, Below, index_in, sym, Text, Scope, set_in, assigned, OnOk-map, both_put, home-at}
use Rattle.mlocal.proofs.LocalLaws.{home-bottom, unlinked-found}
use Rattle.mlocal.proofs.scopes.Locals.set_in_levels.Goals as goal

pub returns-in-Below-clause-ok : goal.returns-in-Below-clause-ok
returns-in-Below-clause-ok c =
    let n = c.args.name.now in
    let l = c.self.inside in
    let at = unlinked-found n c.as_slice.result.now l.levels.items c.unlinked_home.result Below c.unlinked_home.ensures c.as_slice.ensures.value
    c.in-Below.is in
    let f : Text → Scope → Scope = λ k. set_in k c.args.key c.args.value in
    OnOk-map c.set.result (λ e. home-bottom f n n l.levels.items (bottom_of l.bottom) (bottom_of c.set.new.self) refl at (ap bottom_of e)
    ∙ ap (λ s. assigned s n c.args.key c.args.value) c.self.view_is) c.set.ensures.ok

pub set_at-requires-clause-index : goal.set_at-requires-clause-index
set_at-requires-clause-index c =
    let n = c.args.name.now in
    let at = unlinked-found n c.as_slice.result.now c.self.inside.levels.items c.unlinked_home.result (At c.in-At.place c.in-At.index) c.unlinked_home.ensures
    c.as_slice.ensures.value c.in-At.is in
    at.1 c.index_mut.result.now ∙ ap (λ s. index_in s n) (sym c.index_mut.ensures.value)

pub returns-in-At-clause-ok : goal.returns-in-At-clause-ok
returns-in-At-clause-ok c =
    let n = c.args.name.now in
    let l = c.self.inside in
    let place = c.in-At.place in
    let at = unlinked-found n c.as_slice.result.now l.levels.items c.unlinked_home.result (At place c.in-At.index) c.unlinked_home.ensures
    c.as_slice.ensures.value c.in-At.is in
    let f : Text → Scope → Scope = λ k. set_in k c.args.key c.args.value in
    OnOk-map c.set_at.result (λ e. home-at f n n l.levels.items (bottom_of l.bottom ∷ []) place c.index_mut.result.now c.set_at.new.self at.0
    (e ∙ ap (f n) c.index_mut.ensures.value)
    ∙ ap (λ s. assigned s n c.args.key c.args.value) c.self.view_is) c.set_at.ensures.ok

pub invariant_of-self-in-At : goal.invariant_of-self-in-At
invariant_of-self-in-At c =
    let l = c.self.inside in
    both_put c.set_at.result l.places l.scoped l.levels.items c.in-At.place _ c.index_mut.result.now _
    c.set_at.ensures.ok c.set_at.ensures.err (λ n. refl) c.index_mut.ensures.value c.self.invariant
