-- SPDX-License-Identifier: Apache-2.0
use Rattle.mlocal.proofs.LocalLaws.{arith, [], bottom_of, refl, ap, ◌∙◌, Text, Scope, set_in, assigned, OnOk-map, bare_home, home-bottom}
use Rattle.mlocal.proofs.scopes.Locals.set_own.Goals as goal

pub returns-then-self-eq0-clause-ok : goal.returns-then-self-eq0-clause-ok
returns-then-self-eq0-clause-ok c =
    let n = c.args.name.now in
    let l = c.self.inside in
    let at = bare_home n l.levels.items l.scoped (omega arith) c.self.invariant.1 in
    let f : Text → Scope → Scope = λ k. set_in k [] c.args.value in
    OnOk-map c.set_own.result (λ e. home-bottom f n n l.levels.items (bottom_of l.bottom) (bottom_of c.set_own.new.self) refl at (ap bottom_of e)
    ∙ ap (λ s. assigned s n [] c.args.value) c.self.view_is) c.set_own.ensures.ok
