-- SPDX-License-Identifier: Apache-2.0
use Rattle.std.specs.Prelude.{◌&&◌}
use Rattle.meval.proofs.EvalLaws.{ap, ap₂, sym, ◌∙◌}
use Rattle.mspec.specs.Trees.{text_eq}
use Rattle.meval.proofs.merging.is_beside.Goals as goal

pub returns-then-eq : goal.returns-then-eq
returns-then-eq c =
    let same = ap₂ text_eq (sym c.account-mine.ensures) (sym c.account-theirs.ensures) ∙ sym c.eq.ensures ∙ c.if-eq.true in
    let named = rw (c.name-name.ensures, c.name-known.ensures) at c.eq-is_named.ensures in
    named ∙ sym (ap (λ b. b && text_eq c.args.one.now.name c.args.other.now.name) same)

pub returns : goal.returns
returns c =
    let other = ap₂ text_eq (sym c.account-mine.ensures) (sym c.account-theirs.ensures) ∙ sym c.eq.ensures ∙ c.if-eq.false in
    sym (ap (λ b. b && text_eq c.args.one.now.name c.args.other.now.name) other)
