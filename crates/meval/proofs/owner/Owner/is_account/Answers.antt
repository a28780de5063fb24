-- SPDX-License-Identifier: Apache-2.0
use Rattle.meval.proofs.EvalWords.{◌<◌, length, sym, ap, subst, ◌∙◌, arith, nat_tests, IsAccountName}
use Rattle.meval.specs.Held.{owner_text}
use Rattle.meval.proofs.owner.Owner.is_account.Goals as goal

pub returns-in-Account : goal.returns-in-Account
returns-in-Account c =
    let is = c.as_bytes.ensures.bytes ∙ ap owner_text (sym c.in-Account.is) in
    let some : 0 < length c.as_bytes.result.now = c.as_bytes.ensures.is_name.some in
    (λ _. subst IsAccountName is c.as_bytes.ensures.is_name, λ _. grind (arith, nat_tests, some, c.is_empty.ensures))
