-- SPDX-License-Identifier: Apache-2.0
use Rattle.mlocal.proofs.LocalLaws.{ap, sym, ◌∙◌, get-empty, subscripts_cmp, significant_digits}
use Rattle.std.specs.FinMap.{get}
use Rattle.mlocal.proofs.scopes.Locals.get.Goals as goal

pub returns-in-None : goal.returns-in-None
returns-in-None c = sym (get-empty (subscripts_cmp significant_digits) c.args.subs.now) ∙ ap (λ t. get t c.args.subs.now) c.in-None.ensures

pub returns : goal.returns
returns c =
    c.get.ensures ∙ ap (get c.in-Some.variable.now) c.in_ok-key.ensures.key ∙ ap (λ t. get t c.args.subs.now) c.in-Some.ensures
