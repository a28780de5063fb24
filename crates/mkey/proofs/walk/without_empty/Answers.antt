-- SPDX-License-Identifier: Apache-2.0
use Rattle.mkey.proofs.KeyWords.{sym, ◌∙◌, subst, AreSubscripts}
use Rattle.mkey.proofs.Searches.{searched, without_last, with_last, ends_some}
use Rattle.mkey.proofs.walk.without_empty.Goals as goal

pub front-requires : goal.front-requires
front-requires c = ends_some c.args.subs.now (sym c.if-ends_empty.ensures)

pub returns-then-ends_empty-clause-front : goal.returns-then-ends_empty-clause-front
returns-then-ends_empty-clause-front c = c.front.ensures ∙ without_last c.args.subs.now (sym c.if-ends_empty.ensures)

pub returns-then-ends_empty-clause-subscripts : goal.returns-then-ends_empty-clause-subscripts
returns-then-ends_empty-clause-subscripts c =
    subst AreSubscripts (sym (c.front.ensures ∙ without_last c.args.subs.now (sym c.if-ends_empty.ensures))) (searched c.args.subs.now c.requires)

pub returns-else-ends_empty-clause-front : goal.returns-else-ends_empty-clause-front
returns-else-ends_empty-clause-front c = with_last c.args.subs.now (sym c.if-ends_empty.ensures)

pub returns-else-ends_empty-clause-subscripts : goal.returns-else-ends_empty-clause-subscripts
returns-else-ends_empty-clause-subscripts c = subst AreSubscripts (sym (with_last c.args.subs.now (sym c.if-ends_empty.ensures)))
    (searched c.args.subs.now c.requires)
