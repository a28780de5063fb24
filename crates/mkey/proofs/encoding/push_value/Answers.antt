-- SPDX-License-Identifier: Apache-2.0
use Rattle.mkey.proofs.KeyWords.{◌≡◌, ◌∷◌, ◌++◌, ap, sym, ◌∙◌, rules, to_z-of_z, units, number_bytes, subscript_bytes, significant_digits, number_text}
use Rattle.mkey.proofs.KeyWords.{kind_text, w128, SFits, to_z, of_z}
use Rattle.mkey.proofs.NumericValues.{bytes_of_a_number}
use Rattle.mkey.proofs.encoding.push_value.Goals as goal

pub returns-in_ok-reserve-in-Number : goal.returns-in_ok-reserve-in-Number
returns-in_ok-reserve-in-Number c =
    let old = c.args.out.now.items in
    let number = c.in-Number.number in
    let fits : SFits w128 c.to_units.result = search rules in
    let same : to_z w128 (of_z w128 c.to_units.result) ≡ c.to_units.result = to_z-of_z w128 c.to_units.result fits in
    let text : number_text (units number) ≡ c.args.value.now = sym (ap kind_text c.in-Number.is) ∙ c.kind.ensures in
    c.push_number.ensures
    ∙ ap (λ b. b ++ 1 ∷ number_bytes (to_z w128 (of_z w128 c.to_units.result))) c.reserve.ensures.items
    ∙ ap (λ u. old ++ 1 ∷ number_bytes u) (same ∙ c.to_units.ensures.value)
    ∙ ap (λ b. old ++ b) (sym (bytes_of_a_number number))
    ∙ ap (λ t. old ++ subscript_bytes significant_digits t) text
