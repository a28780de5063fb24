-- SPDX-License-Identifier: Apache-2.0
use Rattle.mlocal.proofs.LocalLaws.{◌&&◌, not, sym, ap, ◌∙◌, option_map, unwrap_or, text_eq, leads_by}
use Rattle.mlocal.proofs.level.leads_to.Goals as goal

pub returns-else-is_none : goal.returns-else-is_none
returns-else-is_none c =
    let n = c.args.name.now in
    let found = c.home-found.result in
    let m = unwrap_or (option_map (λ other. other.now) found.1) n in
    c.if-is_none.false ∙ sym (ap (λ b. not b && text_eq c.args.target.now m) (c.is_none.ensures ∙ ap not c.if-is_none.false))
    ∙ leads_by n m c.args.target.now c.args.above.now found.0 c.home-found.ensures
