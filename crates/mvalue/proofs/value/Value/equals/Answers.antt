-- SPDX-License-Identifier: Apache-2.0
use Rattle.mvalue.proofs.ValueWords.{◌≡◌, ap, sym, ◌∙◌, nat_eq, is_eq, pointwise, number_text, units, kind_text}
use Rattle.mvalue.proofs.Numbers.{same_number}
use Rattle.mvalue.proofs.value.Value.equals.Goals as goal

pub returns-in-Number-Number : goal.returns-in-Number-Number
returns-in-Number-Number c =
    let a = c.in-Number-Number.a in
    let b = c.in-Number-Number.b in
    let left : number_text (units a) ≡ c.args.self.now = sym (ap kind_text c.in-Number-Number.is-0) ∙ c.self.view_is in
    let right : number_text (units b) ≡ c.args.other.now = sym (ap kind_text c.in-Number-Number.is-1) ∙ c.other.view_is in
    c.is_eq.ensures ∙ ap is_eq c.cmp.ensures ∙ same_number a b ∙ (λ i. pointwise nat_eq (left i) (right i))
