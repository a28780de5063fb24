-- SPDX-License-Identifier: Apache-2.0
use Rattle.mlocal.proofs.LocalLaws.{[], arith}
use Rattle.mlocal.proofs.Views.{OnOk-map}
use Rattle.mlocal.proofs.NamedScopes.{put_named, put_rest}
use Rattle.mlocal.proofs.scope.Scope.set_own_at.Goals as goal

pub returns-then-index-len-clause-ok : goal.returns-then-index-len-clause-ok
returns-then-index-len-clause-ok c =
    let s = c.self.inside in
    put_named s.named.items _ s.links.items s.rest _ c.self.view_is c.args.name.now c.args.index c.requires
    c.index_mut.result.now (omega arith) c.index_mut.ensures.value c.set_own.new.self [] c.args.value c.set_own.ensures

pub returns-clause-ok : goal.returns-clause-ok
returns-clause-ok c =
    let s = c.self.inside in
    OnOk-map c.set_own-2.result (λ e. put_rest s.named.items _ s.links.items s.rest _ c.self.view_is c.args.name.now c.args.index c.requires (omega arith)
    c.set_own-2.new.self [] c.args.value e) c.set_own-2.ensures.ok
