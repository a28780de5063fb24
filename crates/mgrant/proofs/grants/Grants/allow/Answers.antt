-- SPDX-License-Identifier: Apache-2.0
use Rattle.mgrant.proofs.GrantWords.{◌≡◌, ap, sym, ◌∙◌, list_any, lets_at, mode_of, allows_so, same_permit, Permit}
use Rattle.std.specs.HashMap as hash
use Rattle.mgrant.proofs.Allowances.{lets_by_places}
use Rattle.mgrant.proofs.grants.Grants.allow.Goals as goal

pub returns-in-Some : goal.returns-in-Some
returns-in-Some c =
    let globals = c.self.inside.globals in
    let gs = c.self.inside.list.items in
    let asked = mode_of c.args.mode in
    let p : Permit = record { from = c.args.from; to = c.args.to; global = c.in-Some.global } in
    let found : c.copied-found.result ≡ hash.get same_permit c.self.inside.allowed p = c.copied-found.ensures ∙ c.get.ensures.value in
    c.allows.ensures ∙ ap (λ o. allows_so o asked) found ∙ c.self.invariant.allowance.at p asked
    ∙ sym (lets_by_places globals c.args.global.now c.args.to c.args.from c.in-Some.global asked c.in-Some.ensures.found gs c.self.invariant.in_range)
    ∙ ap (list_any (lets_at c.args.to c.args.from c.args.global.now asked)) c.self.view_is
