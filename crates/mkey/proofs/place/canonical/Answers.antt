-- SPDX-License-Identifier: Apache-2.0
use Rattle.mkey.proofs.KeyWords.{◌≡◌, Some, sym, ◌∙◌, ap, rules, to_z-of_z, IsTrue, false, w128, SFits, to_z, of_z}
use Rattle.mkey.proofs.ShortTexts.{value_where_canonical, none_where_other}
use Rattle.mkey.proofs.place.canonical.Goals as goal

pub returns-then-not-is_canonical-clause-value : goal.returns-then-not-is_canonical-clause-value
returns-then-not-is_canonical-clause-value c =
    sym (none_where_other 18 c.args.text.now (λ is. let no : IsTrue false = c.if-not-is_canonical.ensures.1 is in absurd (cc)))

pub returns-in-Ok-clause-value : goal.returns-in-Ok-clause-value
returns-in-Ok-clause-value c =
    let fits : SFits w128 c.to_units.result = search rules in
    let same : to_z w128 (of_z w128 c.to_units.result) ≡ c.to_units.result = to_z-of_z w128 c.to_units.result fits in
    ap Some (same ∙ c.to_units.ensures.value) ∙ sym (value_where_canonical c.args.text.now _ (c.is_canonical.ensures.0 c.if-not-is_canonical.false) c.in-Ok.ensures)
