-- SPDX-License-Identifier: Apache-2.0
use Rattle.mlocal.proofs.LocalLaws.{ap, ◌∙◌, Some, is_among, retain_keys, spared}
use Rattle.mlocal.proofs.NamedScopes.{others_named}
use Rattle.mlocal.proofs.scope.Scope.hide_others.Goals as goal

pub returns : goal.returns
returns c =
    let s = c.self.inside in
    others_named s.named.items _ s.links.items s.rest _ c.self.view_is c.keep_names.new.named.items c.keep_names-2.new.self
    c.args.names.items (Some c.left_out-others.result.items) (ap Some c.left_out-others.ensures)
    (c.keep_names.ensures ∙ ap (λ l. spared (is_among l) s.named.items) c.as_slice.ensures.value)
    (c.keep_names-2.ensures ∙ ap (λ l. retain_keys s.rest (is_among l)) c.as_slice-2.ensures.value)
