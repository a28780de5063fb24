-- SPDX-License-Identifier: Apache-2.0
use Rattle.mkey.proofs.KeyWords.{sym, one_list}
use Rattle.mkey.proofs.SubscriptLists.{some_all}
use Rattle.mkey.proofs.subs_key.SubsKey.subs.Goals as goal

pub returns : goal.returns
returns c =
    let read = rw c.in-Some.is at c.in_ok-read.ensures in
    one_list c.in-Some.subs c.args.self.now _ (some_all c.in-Some.subs read.0, sym read.1) (c.as_bytes.ensures.subs, sym c.as_bytes.ensures.bytes)

pub unreachable-requires : goal.unreachable-requires
unreachable-requires c = (rw c.in-None.is at c.in_ok-read.ensures) c.args.self.now c.requires c.as_bytes.ensures.bytes
