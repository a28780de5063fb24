-- SPDX-License-Identifier: Apache-2.0
use Rattle.mlocal.proofs.LocalLaws.{arith}
use Rattle.mlocal.proofs.Views.{OnOk-map}
use Rattle.mlocal.proofs.NamedScopes.{put_named, put_rest}
use Rattle.mlocal.proofs.scope.Scope.set_at.Goals as goal

pub returns-then-index-len-clause-ok : goal.returns-then-index-len-clause-ok
returns-then-index-len-clause-ok c =
    let s = c.self.inside in
    OnOk-map c.set.result (λ e. put_named s.named.items _ s.links.items s.rest _ c.self.view_is c.args.name.now c.args.index c.requires.index
    c.index_mut.result.now (omega arith) c.index_mut.ensures.value c.set.new.self c.args.key c.args.value e) c.set.ensures.ok

pub returns-clause-ok : goal.returns-clause-ok
returns-clause-ok c =
    let s = c.self.inside in
    OnOk-map c.set-2.result (λ e. put_rest s.named.items _ s.links.items s.rest _ c.self.view_is c.args.name.now c.args.index c.requires.index (omega arith)
    c.set-2.new.self c.args.key c.args.value e) c.set-2.ensures.ok
