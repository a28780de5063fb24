-- SPDX-License-Identifier: Apache-2.0
use Rattle.mlocal.proofs.NamedScopes.{hidden_named}
use Rattle.mlocal.proofs.NamedTrees.{fresh_from}
use Rattle.mlocal.proofs.scope.Scope.hide.Goals as goal

pub returns-clause-ok : goal.returns-clause-ok
returns-clause-ok c =
    let s = c.self.inside in
    hidden_named s.named.items _ s.links.items s.rest _ c.self.view_is c.add_names.new.named.items c.drop_names.new.self
    c.args.names.now c.in_ok-fresh.fresh.items c.in_ok-fresh.ensures c.in_ok-add_names.ensures.ok c.drop_names.ensures

pub add_names-requires : goal.add_names-requires
add_names-requires c = fresh_from _ c.in_ok-fresh.fresh.items c.in_ok-fresh.ensures
