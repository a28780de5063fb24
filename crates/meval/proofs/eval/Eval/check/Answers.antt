-- SPDX-License-Identifier: Apache-2.0
use Rattle.meval.proofs.EvalLaws.{sym, and_from, decides_account_name, let_in, no_account}
use Rattle.meval.proofs.eval.Eval.check.Goals as goal

pub returns-then-not-is_of_account-clause-does : goal.returns-then-not-is_of_account-clause-does
returns-then-not-is_of_account-clause-does g c =
    let other = rw c.if-not-is_of_account.true at (decides_account_name _ _ c.is_of_account.ensures) in
    no_account c.args.mode c.args.node.now (sym other)

pub returns-clause-does : goal.returns-clause-does
returns-clause-does g c =
    let account = rw c.if-not-is_of_account.false at (decides_account_name _ _ c.is_of_account.ensures) in
    let may = rw (c.if-not-may.false, c.account-owner.ensures, c.as_bytes-name.ensures.bytes, c.name.ensures) at c.may.ensures in
    let_in c.args.mode c.args.node.now (and_from _ _ (sym account) (sym may))
