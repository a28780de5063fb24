-- SPDX-License-Identifier: Apache-2.0
use Rattle.mkey.proofs.Keys.{bounds_subtree, bounds_beginnings}
use Rattle.mkey.proofs.key.NodeKey.after_subtree.Goals as goal

pub returns-clause-subtree : goal.returns-clause-subtree
returns-clause-subtree c = bounds_subtree c.args.self.now c.in_ok-end.end.items c.followed_by.ensures.stored c.in_ok-end.ensures.bytes

pub returns-clause-begins : goal.returns-clause-begins
returns-clause-begins c = bounds_beginnings c.args.self.now c.in_ok-end.end.items c.followed_by.ensures.stored c.in_ok-end.ensures.bytes
