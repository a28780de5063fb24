-- SPDX-License-Identifier: Apache-2.0
use Rattle.mlocal.proofs.LocalLaws.{arith, ap, sym, ◌∙◌, refl, unwrap_or, bottom_of, empty, tree_of, bare_home, tree-bottom}
use Rattle.mlocal.proofs.scopes.Locals.variable_of.Goals as goal

pub returns-then-self-eq0 : goal.returns-then-self-eq0
returns-then-self-eq0 c =
    let n = c.args.name.now in
    let l = c.self.inside in
    let at = bare_home n l.levels.items l.scoped (omega arith) c.self.invariant.1 in
    ap (λ o. unwrap_or o empty) c.get.ensures
    ∙ sym (tree-bottom n n l.levels.items (bottom_of l.bottom) refl at) ∙ ap (λ s. tree_of s n) c.self.view_is
