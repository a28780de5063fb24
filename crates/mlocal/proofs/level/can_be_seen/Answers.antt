-- SPDX-License-Identifier: Apache-2.0
use Rattle.mlocal.proofs.LocalLaws.{◌≡◌, ◌||◌, ap, ◌∙◌, sym, rules, list_any, flat_map, keys_of, leads_to, ways_any}
use Rattle.std.proofs.Common.{tests}
use Rattle.std.proofs.lemmas.Iterator.{YieldsList-from_slice}
use Rattle.std.proofs.lemmas.Iterator.Search.{any_from_yields_List}
use Rattle.mlocal.proofs.level.can_be_seen.Goals as goal

pub returns-else-leads_to : goal.returns-else-leads_to
returns-else-leads_to c =
    let above = c.args.above.now in
    let leads = leads_to c.args.name.now above in
    let any : c.any.result ≡ list_any (λ s. list_any (λ l. leads l.0) s.links) above =
    any_from_yields_List (λ s. list_any (λ l. leads l.0) s.links) _ _ c.any.result c.any.ensures.ran (YieldsList-from_slice above c.iter.ensures.rest) (λ x b q k. search (rules, tests)) in
    any ∙ ways_any leads above ∙ ap (λ b. b || list_any leads (flat_map (λ s. keys_of s.links) above)) (sym c.if-leads_to.false ∙ c.leads_to.ensures)
