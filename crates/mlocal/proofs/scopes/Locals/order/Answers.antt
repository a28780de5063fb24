-- SPDX-License-Identifier: Apache-2.0
use Rattle.mlocal.proofs.LocalLaws.{ap, ◌∙◌, order_of, front, last, way, IfOk-map, none_next}
use Rattle.mlocal.proofs.scopes.Locals.order.Goals as goal

pub returns-in-None : goal.returns-in-None
returns-in-None c =
    let subs = c.args.subs.now in
    none_next (way c.args.direction) (front subs) (last subs) ∙ ap (λ t. order_of t (way c.args.direction) (front subs) (last subs)) c.in-None.ensures

pub returns-in-Some : goal.returns-in-Some
returns-in-Some c =
    let subs = c.args.subs.now in
    IfOk-map c.order.result (λ next is. is ∙ ap (λ t. order_of t (way c.args.direction) (front subs) (last subs)) c.in-Some.ensures) c.order.ensures
