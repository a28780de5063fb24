-- SPDX-License-Identifier: Apache-2.0
use Rattle.mkey.proofs.SubscriptLists.{no_such_name, no_such_subs}
use Rattle.mkey.proofs.decoding.read_by.Goals as goal

pub returns-in_default-2 : goal.returns-in_default-2
returns-in_default-2 c =
    let account = rw c.in-Some.is at c.in_ok-account.ensures in
    no_such_name c.args.kept c.args.bytes.now c.in-Some.account c.in-Some.count account.0 c.behind-local.result.now c.behind-local.ensures (rw c.in_default-2.is at c.in_ok-name.ensures)

pub returns-in_default-3 : goal.returns-in_default-3
returns-in_default-3 c =
    let account = rw c.in-Some.is at c.in_ok-account.ensures in
    let name = rw c.in-Some-2.is at c.in_ok-name.ensures in
    no_such_subs c.args.kept c.args.bytes.now c.in-Some.account c.in-Some.count account.0 c.behind-local.result.now c.behind-local.ensures c.in-Some-2.name c.in-Some-2.count name.0
    c.behind.result.now c.behind.ensures (rw c.in_default-3.is at c.in_ok-subs.ensures)
