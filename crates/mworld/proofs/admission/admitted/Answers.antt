-- SPDX-License-Identifier: Apache-2.0
use Rattle.mworld.proofs.WorldWords.{refl, sym, ◌∙◌, Zterm, Zline, Zchar}
use Rattle.mworld.proofs.Checks.{known, found, unknown_refused, long_refused, other_refused, is_short, is_long}
use Rattle.mworld.proofs.admission.admitted.Goals as goal

pub returns-in_default : goal.returns-in_default
returns-in_default c = (Zterm, refl, λ world. unknown_refused c.args.settings.now (record { terminal = c.args.terminal; text = c.args.text.now }) world (sym c.in_default.ensures.account))

pub returns-then-text-gt-MAX_LINE : goal.returns-then-text-gt-MAX_LINE
returns-then-text-gt-MAX_LINE c =
    let there = found c.args.settings.now c.args.terminal c.in-Some.account c.in-Some.ensures.account c.in-Some.ensures.known in
    (Zline, refl, λ world. long_refused c.args.settings.now (record { terminal = c.args.terminal; text = c.args.text.now }) there.0 world there.1 (is_long c.args.text.now c.if-text-gt-MAX_LINE.true))

pub returns-then-not-has_characters_only : goal.returns-then-not-has_characters_only
returns-then-not-has_characters_only c =
    let there = found c.args.settings.now c.args.terminal c.in-Some.account c.in-Some.ensures.account c.in-Some.ensures.known in (
      Zchar,
      refl,
      λ world. other_refused c.args.settings.now (record { terminal = c.args.terminal; text = c.args.text.now }) there.0 world there.1 (is_short c.args.text.now c.if-text-gt-MAX_LINE.false) (sym c.has_characters_only.ensures ∙ c.if-not-has_characters_only.true),
    )

pub returns : goal.returns
returns c =
    known c.args.settings.now c.args.terminal c.in-Some.account c.args.text.now c.in-Some.ensures.account c.in-Some.ensures.known
    (is_short c.args.text.now c.if-text-gt-MAX_LINE.false) (sym c.has_characters_only.ensures ∙ c.if-not-has_characters_only.false)
