-- SPDX-License-Identifier: Apache-2.0
use Rattle.mlocal.proofs.LocalLaws.{[], ◌∷◌, ap, sym, ◌∙◌, refl, None, Some, option_map, unwrap_or, bottom_of, empty, tree_in, tree_of, found-at, tree-at}
use Rattle.mlocal.proofs.LocalLaws.{tree-bottom}
use Rattle.mlocal.proofs.scopes.Locals.variable_by_link.Goals as goal

pub returns-in-None : goal.returns-in-None
returns-in-None c =
    let n = c.args.name.now in
    let m = c.known_as-known.result.now in
    let found = c.home-found.result in
    let other = unwrap_or (option_map (λ other. other.now) found.1) n in
    let at = found-at n m other c.as_slice.result.now c.self.inside.levels.items found.0 None c.home-found.ensures c.as_slice.ensures.value c.in-None.is
    c.known_as-known.ensures in
    ap (λ o. unwrap_or o empty) c.get.ensures
    ∙ sym (tree-bottom n m c.self.inside.levels.items (bottom_of c.self.inside.bottom) refl at) ∙ ap (λ s. tree_of s n) c.self.view_is

pub returns-in-Some : goal.returns-in-Some
returns-in-Some c =
    let n = c.args.name.now in
    let m = c.known_as-known.result.now in
    let found = c.home-found.result in
    let other = unwrap_or (option_map (λ other. other.now) found.1) n in
    let place = c.in-Some.place in
    let at = found-at n m other c.as_slice.result.now c.self.inside.levels.items found.0 (Some place) c.home-found.ensures c.as_slice.ensures.value c.in-Some.is
    c.known_as-known.ensures in
    c.variable.ensures ∙ ap (λ s. tree_in s m) c.index.ensures
    ∙ sym (tree-at n m c.self.inside.levels.items (bottom_of c.self.inside.bottom ∷ []) place c.index.result.now at) ∙ ap (λ s. tree_of s n) c.self.view_is
