-- SPDX-License-Identifier: Apache-2.0
use Rattle.mgrant.proofs.GrantWords.{◌≡◌, true, false, sym, ap, ◌∙◌, list_any, or_left, text_eq, mode_of, lets_at, names_in, text_in}
use Rattle.mgrant.proofs.Seen.{among_seen, may_seen, lets_seen, lets_unknown, either}
use Rattle.mgrant.proofs.settings.Settings.may.Goals as goal

pub returns-then-eq : goal.returns-then-eq
returns-then-eq c =
    let names = names_in c.self.inside.accounts in
    let own : text_eq c.args.owner_name.now (text_in names c.args.me) ≡ true = ap (text_eq c.args.owner_name.now) (sym (c.name_at.ensures ∙ ap (text_in names) c.place-place.ensures)) ∙ sym c.eq.ensures ∙ c.if-eq.true in
    sym (or_left (text_eq c.args.owner_name.now (text_in names c.args.me)) _ own) ∙ may_seen c.self.inside.accounts c.self.inside.terminals.items c.self.inside.grants _ c.self.view_is c.args.me c.args.owner_name.now c.args.global.now (mode_of c.args.mode)

pub returns-in-Some : goal.returns-in-Some
returns-in-Some c =
    let names = names_in c.self.inside.accounts in
    let asked = mode_of c.args.mode in
    let other : text_eq c.args.owner_name.now (text_in names c.args.me) ≡ false = ap (text_eq c.args.owner_name.now) (sym (c.name_at.ensures ∙ ap (text_in names) c.place-place.ensures)) ∙ sym c.eq.ensures ∙ c.if-eq.false in
    c.allow.ensures ∙ ap (λ m. list_any (lets_at m c.in-Some.owner c.args.global.now asked) c.self.inside.grants) c.place-place.ensures
    ∙ sym (either (text_eq c.args.owner_name.now (text_in names c.args.me)) _ _ other (lets_seen names c.self.invariant.named c.args.me c.in-Some.owner c.args.owner_name.now c.in-Some.ensures.found c.args.global.now asked c.self.inside.grants (among_seen c.self.inside.accounts c.self.inside.grants c.self.invariant.granted)))
    ∙ may_seen c.self.inside.accounts c.self.inside.terminals.items c.self.inside.grants _ c.self.view_is c.args.me c.args.owner_name.now c.args.global.now asked

pub returns-in-None : goal.returns-in-None
returns-in-None c =
    let names = names_in c.self.inside.accounts in
    let asked = mode_of c.args.mode in
    let other : text_eq c.args.owner_name.now (text_in names c.args.me) ≡ false = ap (text_eq c.args.owner_name.now) (sym (c.name_at.ensures ∙ ap (text_in names) c.place-place.ensures)) ∙ sym c.eq.ensures ∙ c.if-eq.false in
    sym (either (text_eq c.args.owner_name.now (text_in names c.args.me)) _ _ other (lets_unknown names (text_in names c.args.me) c.args.owner_name.now c.args.global.now asked c.in-None.ensures.absent c.self.inside.grants (among_seen c.self.inside.accounts c.self.inside.grants c.self.invariant.granted)))
    ∙ may_seen c.self.inside.accounts c.self.inside.terminals.items c.self.inside.grants _ c.self.view_is c.args.me c.args.owner_name.now c.args.global.now asked
