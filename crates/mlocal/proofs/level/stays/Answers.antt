-- SPDX-License-Identifier: Apache-2.0
use Rattle.mlocal.proofs.LocalLaws.{◌≡◌, ◌||◌, not, ap, ◌∙◌, sym, rules, list_any, leads_to, ways}
use Rattle.std.proofs.Common.{tests}
use Rattle.std.proofs.lemmas.Iterator.{YieldsList-from_slice}
use Rattle.std.proofs.lemmas.Iterator.Search.{any_from_yields_List}
use Rattle.mlocal.proofs.level.stays.Goals as goal

pub returns-else-any : goal.returns-else-any
returns-else-any c =
    let n = c.args.name.now in
    let names = c.args.names.now in
    let leads = leads_to n c.args.above.now in
    let any : c.any.result ≡ list_any leads names =
    any_from_yields_List leads _ _ c.any.result c.any.ensures.ran (YieldsList-from_slice names c.iter.ensures.rest) (λ x b q k. search (rules, tests)) in
    ap not c.can_be_seen.ensures ∙ ap (λ b. b || not (list_any leads (ways c.args.above.now n))) (sym c.if-any.false ∙ any)
