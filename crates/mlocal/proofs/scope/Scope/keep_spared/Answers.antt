-- SPDX-License-Identifier: Apache-2.0
use Rattle.mlocal.proofs.LocalLaws.{stays}
use Rattle.mlocal.proofs.NamedScopes.{emptied_named}
use Rattle.mlocal.proofs.scope.Scope.keep_spared.Goals as goal

pub returns : goal.returns
returns c =
    let s = c.self.inside in
    emptied_named s.named.items _ s.links.items s.rest _ c.self.view_is c.keep_spared.new.named.items c.keep_spared-2.new.self
    (stays c.args.names.now c.args.above.now) c.keep_spared.ensures c.keep_spared-2.ensures
