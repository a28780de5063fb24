-- SPDX-License-Identifier: Apache-2.0
use Rattle.mlocal.proofs.LocalLaws.{arith}
use Rattle.mlocal.proofs.Views.{OnOk-map}
use Rattle.mlocal.proofs.NamedScopes.{kill_named, kill_rest}
use Rattle.mlocal.proofs.scope.Scope.kill.Goals as goal

pub returns-then-index-len-clause-ok : goal.returns-then-index-len-clause-ok
returns-then-index-len-clause-ok c =
    let s = c.self.inside in
    OnOk-map c.kill.result (λ e. kill_named s.named.items _ s.links.items s.rest _ c.self.view_is c.args.name.now c.index-index.result c.index-index.ensures
    c.index_mut.result.now (omega arith) c.index_mut.ensures.value c.kill.new.self c.args.key.now e) c.kill.ensures.ok

pub returns-clause-ok : goal.returns-clause-ok
returns-clause-ok c =
    let s = c.self.inside in
    OnOk-map c.kill-2.result (λ e. kill_rest s.named.items _ s.links.items s.rest _ c.self.view_is c.args.name.now c.index-index.result
    c.index-index.ensures (omega arith)
    c.kill-2.new.self c.args.key.now e) c.kill-2.ensures.ok
