-- SPDX-License-Identifier: Apache-2.0
use Rattle.mlocal.proofs.LocalLaws.{sym, ap, ◌∙◌, keys_of, trees_of, all_raised, named_raised}
use Rattle.mlocal.proofs.scope.Scope.raise.Goals as goal

pub returns-then-is_some : goal.returns-then-is_some
returns-then-is_some c = all_raised _ c.args.place _ _ c.raise_all.ensures

pub returns : goal.returns
returns c =
    let s = c.self.inside in
    named_raised (λ names. names.items) s.others (keys_of s.named.items) (keys_of c.as_slice.result.now) s.links.items c.as_slice-2.result.now
    (trees_of s.named.items s.rest) _ c.args.place _ _ _
    (sym c.is_some.ensures ∙ c.if-is_some.false) c.self.view_is (ap keys_of c.as_slice.ensures.value) c.as_slice-2.ensures.value c.raise_named.ensures
    c.raise_links.ensures
