-- SPDX-License-Identifier: Apache-2.0
use Rattle.mlocal.proofs.LocalLaws.{[], ◌∷◌, bottom_of, refl, ap, ◌∙◌, None, Some, unwrap_or, Text, Scope, set_in, assigned, OnOk-map, found-at, home-at}
use Rattle.mlocal.proofs.LocalLaws.{both_put, home-bottom}
use Rattle.mlocal.proofs.scopes.Locals.set_by_link.Goals as goal

pub returns-in-None-clause-ok : goal.returns-in-None-clause-ok
returns-in-None-clause-ok c =
    let n = c.args.name.now in
    let l = c.self.inside in
    let found = c.in_ok-found.found in
    let m = c.known_name-known.result.now in
    let at = found-at n m (unwrap_or found.1 n) c.as_slice.result.now l.levels.items found.0 None c.in_ok-found.ensures c.as_slice.ensures.value
    c.in-None.is c.known_name-known.ensures in
    let f : Text → Scope → Scope = λ k. set_in k c.args.key c.args.value in
    OnOk-map c.set.result (λ e. home-bottom f n m l.levels.items (bottom_of l.bottom) (bottom_of c.set.new.self) refl at (ap bottom_of e)
    ∙ ap (λ s. assigned s n c.args.key c.args.value) c.self.view_is) c.set.ensures.ok

pub returns-clause-ok : goal.returns-clause-ok
returns-clause-ok c =
    let n = c.args.name.now in
    let l = c.self.inside in
    let found = c.in_ok-found.found in
    let m = c.known_name-known.result.now in
    let at = found-at n m (unwrap_or found.1 n) c.as_slice.result.now l.levels.items found.0 (Some c.in-Some.place) c.in_ok-found.ensures
    c.as_slice.ensures.value c.in-Some.is c.known_name-known.ensures in
    let f : Text → Scope → Scope = λ k. set_in k c.args.key c.args.value in
    OnOk-map c.set-in-Some.result (λ e. home-at f n m l.levels.items (bottom_of l.bottom ∷ []) c.in-Some.place c.index_mut.result.now c.set-in-Some.new.self at
    (e ∙ ap (f m) c.index_mut.ensures.value)
    ∙ ap (λ s. assigned s n c.args.key c.args.value) c.self.view_is) c.set-in-Some.ensures.ok

pub invariant_of-self-in-Some : goal.invariant_of-self-in-Some
invariant_of-self-in-Some c =
    let l = c.self.inside in
    both_put c.set-in-Some.result l.places l.scoped l.levels.items c.in-Some.place _ c.index_mut.result.now _
    c.set-in-Some.ensures.ok c.set-in-Some.ensures.err (λ n. refl) c.index_mut.ensures.value c.self.invariant
