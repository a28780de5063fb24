-- SPDX-License-Identifier: Apache-2.0
use Rattle.mlocal.proofs.LocalLaws.{arith, [], bottom_of, refl, ap, ◌∙◌, Some, Text, Scope, kill_in, killed, OnOk-map, bare_home, home-bottom}
use Rattle.std.specs.FinMap.{get}
use Rattle.mlocal.proofs.Views.{kill_seen}
use Rattle.mlocal.proofs.scopes.Locals.kill.Goals as goal

pub returns-then-self-eq0-clause-ok : goal.returns-then-self-eq0-clause-ok
returns-then-self-eq0-clause-ok c =
    let n = c.args.name.now in
    let l = c.self.inside in
    let at = bare_home n l.levels.items l.scoped (omega arith) c.self.invariant.1 in
    let f : Text → Scope → Scope = λ k s. kill_in k c.args.subs.now (get s.trees k) s in
    OnOk-map c.kill.result (λ e. home-bottom f n n l.levels.items (bottom_of l.bottom) (bottom_of c.kill.new.self) refl at
    (kill_seen [] (Some []) l.bottom c.kill.new.self n c.in_ok-key.key e (bottom_of l.bottom) refl
    ∙ ap (λ k. kill_in n k (get l.bottom n) (bottom_of l.bottom)) c.in_ok-key.ensures.key)
    ∙ ap (λ s. killed s n c.args.subs.now) c.self.view_is) c.kill.ensures.ok
