-- SPDX-License-Identifier: Apache-2.0
use Rattle.meval.proofs.EvalLaws.{sym, and_from, decides_account_name, let_in, no_account}
use Rattle.mspec.specs.Globals.{routines_of}
use Rattle.mgrant.specs.declared.mode.Mode.TheVariants as mode
use Rattle.meval.proofs.eval.Eval.check_routines.Goals as goal

pub returns-then-not-is_account_name-clause-does : goal.returns-then-not-is_account_name-clause-does
returns-then-not-is_account_name-clause-does g c =
    let other = rw c.if-not-is_account_name.true at (decides_account_name _ _ c.is_account_name.ensures) in
    no_account mode.Read (routines_of c.args.owner.now) (sym other)

pub returns-clause-does : goal.returns-clause-does
returns-clause-does g c =
    let account = rw c.if-not-is_account_name.false at (decides_account_name _ _ c.is_account_name.ensures) in
    let may = rw (c.if-not-may.false, c.as_bytes-owner_name.ensures.bytes) at c.may.ensures in
    let_in mode.Read (routines_of c.args.owner.now) (and_from _ _ (sym account) (sym may))
