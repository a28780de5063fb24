-- SPDX-License-Identifier: Apache-2.0
use Rattle.mlocal.proofs.LocalLaws.{arith, sym, ◌∙◌}
use Rattle.mlocal.proofs.NamedScopes.{has_named, has_rest}
use Rattle.mlocal.proofs.scope.Scope.find.Goals as goal

pub returns-then-index-len : goal.returns-then-index-len
returns-then-index-len c =
    let s = c.self.inside in (
      has_named s.named.items _ s.links.items s.rest _ c.self.view_is c.args.name.now c.index-index.result c.index-index.ensures (omega arith),
      c.index-index.ensures,
    )

pub returns-then-is_other : goal.returns-then-is_other
returns-then-is_other c =
    let s = c.self.inside in (
      has_rest s.named.items _ s.links.items s.rest _ c.self.view_is c.args.name.now c.index-index.result c.index-index.ensures (omega arith)
          ∙ sym c.is_other.ensures ∙ c.if-is_other.true,
      c.index-index.ensures,
    )

pub returns-else-is_other : goal.returns-else-is_other
returns-else-is_other c =
    let s = c.self.inside in
    has_rest s.named.items _ s.links.items s.rest _ c.self.view_is c.args.name.now c.index-index.result c.index-index.ensures (omega arith)
    ∙ sym c.is_other.ensures ∙ c.if-is_other.false
