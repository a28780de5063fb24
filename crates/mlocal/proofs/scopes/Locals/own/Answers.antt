-- SPDX-License-Identifier: Apache-2.0
use Rattle.mlocal.proofs.LocalLaws.{[], ap, sym, ◌∙◌, get-empty, subscripts_cmp, significant_digits}
use Rattle.std.specs.FinMap.{get}
use Rattle.mlocal.proofs.scopes.Locals.own.Goals as goal

pub returns-in-None : goal.returns-in-None
returns-in-None c = sym (get-empty (subscripts_cmp significant_digits) []) ∙ ap (λ t. get t []) c.in-None.ensures

pub returns-in-Some : goal.returns-in-Some
returns-in-Some c = c.own.ensures ∙ ap (λ t. get t []) c.in-Some.ensures
