-- SPDX-License-Identifier: Apache-2.0
use Rattle.mlocal.proofs.LocalLaws.{ap, sym, ◌∙◌, bind, binding_of}
use Rattle.mlocal.specs.Named.{bound_scope}
use Rattle.mlocal.proofs.NamedScopes.{bound_unset}
use Rattle.mlocal.proofs.named.add_formal.Goals as goal

pub returns-in_ok-push-in-Unset : goal.returns-in_ok-push-in-Unset
returns-in_ok-push-in-Unset c =
    let es = c.args.named.now.items in
    let ls = c.args.links.now.items in
    ap (λ l. bound_scope l ls) c.in_ok-push-in-Unset.ensures.items ∙ bound_unset es ls c.args.formal.0 c.new.result c.new.ensures
    ∙ ap (λ b. bind c.args.formal.0 (binding_of b) (bound_scope es ls)) (sym c.in-Unset.is)
