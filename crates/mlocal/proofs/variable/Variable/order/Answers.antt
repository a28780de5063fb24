-- SPDX-License-Identifier: Apache-2.0
use Rattle.mlocal.proofs.LocalLaws.{ap, sym, ◌∙◌, option_map, option_and_then, child_of, order_of, front, last, way, IfOk-map, order_backward}
use Rattle.mlocal.proofs.variable.Variable.order.Goals as goal

pub returns-in-Forward : goal.returns-in-Forward
returns-in-Forward c =
    let above = c.in_ok-above.ensures.key ∙ c.front.ensures in
    IfOk-map c.child.result (λ next is. is
    ∙ ap (λ xs. option_and_then (child_of xs) (option_map (λ k. k.now) c.in_ok-behind-in-Forward.field-0)) above
    ∙ c.in_ok-behind-in-Forward.ensures.next
    ∙ ap (λ d. order_of c.args.self.now (way d) (front c.args.subs.now) (last c.args.subs.now)) (sym c.in-Forward.is)) c.child.ensures

pub returns : goal.returns
returns c =
    let subs = c.args.subs.now in
    let above = c.in_ok-above.ensures.key ∙ c.front.ensures in
    IfOk-map c.child-in-Backward.result (λ next is. is
    ∙ ap (λ xs. option_and_then (child_of xs) (option_map (λ k. k.now) c.in_ok-before-in-Backward.field-0)) above
    ∙ ap (option_and_then (child_of (front subs))) c.in_ok-before-in-Backward.ensures.key
    ∙ sym (order_backward c.args.self.now (front subs) (last subs))
    ∙ ap (λ d. order_of c.args.self.now (way d) (front subs) (last subs)) (sym c.in-Backward.is)) c.child-in-Backward.ensures
