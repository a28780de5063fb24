-- SPDX-License-Identifier: Apache-2.0
use Rattle.mlocal.proofs.LocalLaws.{arith}
use Rattle.mlocal.proofs.NamedScopes.{tree_named, tree_rest}
use Rattle.mlocal.proofs.scope.Scope.variable_at.Goals as goal

pub returns-then-index-len : goal.returns-then-index-len
returns-then-index-len c =
    let s = c.self.inside in
    tree_named s.named.items _ s.links.items s.rest _ c.self.view_is c.args.name.now c.args.index c.requires c.index.result.now (omega arith) c.index.ensures

pub returns : goal.returns
returns c =
    let s = c.self.inside in
    tree_rest s.named.items _ s.links.items s.rest _ c.self.view_is c.args.name.now c.args.index c.requires (omega arith) _ c.get.ensures
