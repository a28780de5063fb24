-- SPDX-License-Identifier: Apache-2.0
use Rattle.mlocal.proofs.LocalLaws.{[], ◌∷◌, ap, sym, ◌∙◌, refl, unwrap_or, At, Below, bottom_of, empty, index_in, tree_in, tree_of, tree-at}
use Rattle.mlocal.proofs.LocalLaws.{tree-bottom, unlinked-found}
use Rattle.mlocal.proofs.scopes.Locals.variable_in_levels.Goals as goal

pub returns-in-Below : goal.returns-in-Below
returns-in-Below c =
    let n = c.args.name.now in
    let at = unlinked-found n c.as_slice.result.now c.self.inside.levels.items c.unlinked_home.result Below c.unlinked_home.ensures
    c.as_slice.ensures.value c.in-Below.is in
    ap (λ o. unwrap_or o empty) c.get.ensures
    ∙ sym (tree-bottom n n c.self.inside.levels.items (bottom_of c.self.inside.bottom) refl at) ∙ ap (λ s. tree_of s n) c.self.view_is

pub variable_at-requires : goal.variable_at-requires
variable_at-requires c =
    let n = c.args.name.now in
    let at = unlinked-found n c.as_slice.result.now c.self.inside.levels.items c.unlinked_home.result (At c.in-At.place c.in-At.index) c.unlinked_home.ensures
    c.as_slice.ensures.value c.in-At.is in
    at.1 c.index.result.now ∙ ap (λ s. index_in s n) (sym c.index.ensures)

pub returns-in-At : goal.returns-in-At
returns-in-At c =
    let n = c.args.name.now in
    let place = c.in-At.place in
    let at = unlinked-found n c.as_slice.result.now c.self.inside.levels.items c.unlinked_home.result (At place c.in-At.index) c.unlinked_home.ensures
    c.as_slice.ensures.value c.in-At.is in
    c.variable_at.ensures ∙ ap (λ s. tree_in s n) c.index.ensures
    ∙ sym (tree-at n n c.self.inside.levels.items (bottom_of c.self.inside.bottom ∷ []) place c.index.result.now at.0) ∙ ap (λ s. tree_of s n) c.self.view_is
