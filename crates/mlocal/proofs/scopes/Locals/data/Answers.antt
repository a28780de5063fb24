-- SPDX-License-Identifier: Apache-2.0
use Rattle.mlocal.proofs.LocalLaws.{ap, ◌∙◌, has_value, has_descendants, IfOk-map, none_there, none_below}
use Rattle.mlocal.proofs.scopes.Locals.data.Goals as goal

pub returns-in-None-clause-value : goal.returns-in-None-clause-value
returns-in-None-clause-value c = none_there c.args.subs.now ∙ ap (λ t. has_value t c.args.subs.now) c.in-None.ensures

pub returns-in-None-clause-descendants : goal.returns-in-None-clause-descendants
returns-in-None-clause-descendants c = none_below c.args.subs.now ∙ ap (λ t. has_descendants t c.args.subs.now) c.in-None.ensures

pub returns-in-Some-clause-value : goal.returns-in-Some-clause-value
returns-in-Some-clause-value c = IfOk-map c.data.result (λ found is. is ∙ ap (λ t. has_value t c.args.subs.now) c.in-Some.ensures) c.data.ensures.value

pub returns-in-Some-clause-descendants : goal.returns-in-Some-clause-descendants
returns-in-Some-clause-descendants c =
    IfOk-map c.data.result (λ found is. is ∙ ap (λ t. has_descendants t c.args.subs.now) c.in-Some.ensures) c.data.ensures.descendants
