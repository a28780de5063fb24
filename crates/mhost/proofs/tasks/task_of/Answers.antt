-- SPDX-License-Identifier: Apache-2.0
use Rattle.std.proofs.Common.{ap, ◌∙◌}
use Rattle.mspec.specs.Access.{account_named}
use Rattle.mhost.proofs.Accounts.{known, its_name}
use Rattle.mhost.proofs.Asking.{asks_to_tell, names_account}
use Rattle.mhost.proofs.tasks.task_of.Goals as goal

pub returns-in-Some-clause-task : goal.returns-in-Some-clause-task
returns-in-Some-clause-task c =
    let run = c.in-Run-default-default-Some in
    let is = run.only-is in
    rw run.is
    (asks_to_tell _ run.settings run.store run.only run.name (rw run.is at is) _
    (its_name c.args.settings.now _ c.in-Some.account (c.in-Some.ensures.account ∙ ap (account_named c.args.settings.now) c.as_bytes.ensures.value) c.in-Some.ensures.known))

pub returns-in-Some-clause-account : goal.returns-in-Some-clause-account
returns-in-Some-clause-account c =
    let run = c.in-Run-default-default-Some in
    let is = run.only-is in
    rw run.is
    (names_account _ run.settings run.store run.only run.name (rw run.is at is)
    (known c.args.settings.now _ c.in-Some.account (c.in-Some.ensures.account ∙ ap (account_named c.args.settings.now) c.as_bytes.ensures.value) c.in-Some.ensures.known))
