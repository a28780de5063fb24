-- SPDX-License-Identifier: Apache-2.0
use Rattle.mgrant.proofs.GrantWords.{◌<◌, All, length, sym, ap, subst, ◌∙◌, names_in, text_in, account_name_is}
use Rattle.mspec.specs.Access as access
use Rattle.mspec.specs.KeyBytes.{IsAccountName}
use Rattle.mgrant.proofs.Seen.{name_seen, name_good, name_small, length_seen, within_of_named}
use Rattle.mgrant.proofs.settings.Settings.name_of.Goals as goal

pub returns-clause-name : goal.returns-clause-name
returns-clause-name c =
    c.name_at.ensures ∙ ap (text_in (names_in c.self.inside.accounts)) c.place.ensures
    ∙ name_seen c.self.inside.accounts c.args.id
    ∙ ap (λ s. access.name_at s c.args.id) c.self.view_is

pub returns-clause-good : goal.returns-clause-good
returns-clause-good c = λ known.
    let names = names_in c.self.inside.accounts in
    let within : c.args.id < length names =
    subst (λ n. c.args.id < n) (sym (ap (λ s. length s.accounts) c.self.view_is) ∙ sym (length_seen c.self.inside.accounts)) known in
    subst IsAccountName (sym (c.name_at.ensures ∙ ap (text_in names) c.place.ensures)) (account_name_is (text_in names c.args.id) (name_good names c.self.invariant.named c.args.id within))

pub returns-clause-named : goal.returns-clause-named
returns-clause-named c = λ some.
    let names = names_in c.self.inside.accounts in
    let is = c.name_at.ensures ∙ ap (text_in names) c.place.ensures in
    let within = within_of_named names c.args.id (subst (λ t. 0 < length t) is some) in
    subst IsAccountName (sym is) (account_name_is (text_in names c.args.id) (name_good names c.self.invariant.named c.args.id within))

pub returns-clause-ascii : goal.returns-clause-ascii
returns-clause-ascii c = subst (All (λ b. b < 128)) (sym (c.name_at.ensures ∙ ap (text_in (names_in c.self.inside.accounts)) c.place.ensures)) (name_small (names_in c.self.inside.accounts) c.self.invariant.named c.args.id)
