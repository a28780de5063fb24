-- SPDX-License-Identifier: Apache-2.0
use Rattle.mcommand.proofs.CommandLaws.{◌≡◌, ◌∙◌, Bool, true, false, ◌+ℤ◌, sym, refl, give, is_past, units, added, does_gives, does_true, does_false}
use Rattle.mcommand.proofs.parts.Parts.add_within.Goals as goal

pub returns-then-goes_past : goal.returns-then-goes_past
returns-then-goes_past g c =
    let past : is_past (units c.args.by) (units c.args.number +ℤ units c.args.by) (units c.args.limit) ≡ true = sym c.goes_past.ensures ∙ c.if-goes_past.true in
    does_true (give false) (added c.args.index.now (units c.args.number) (units c.args.by)) _ past (does_gives false (λ (b : Bool). b) false refl)

pub returns : goal.returns
returns g c =
    let within : is_past (units c.args.by) (units c.args.number +ℤ units c.args.by) (units c.args.limit) ≡ false = sym c.goes_past.ensures ∙ c.if-goes_past.false in
    does_false (give false) (added c.args.index.now (units c.args.number) (units c.args.by)) _ within c.add.ensures
