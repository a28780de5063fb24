-- SPDX-License-Identifier: Apache-2.0
use Rattle.mkey.proofs.Keys.{bounds_below}
use Rattle.mkey.proofs.key.NodeKey.child_bounds.Goals as goal

pub returns-clause-below : goal.returns-clause-below
returns-clause-below c = bounds_below c.args.self.now c.in_ok-low.low.items c.in_ok-high.high.items c.followed_by.ensures.stored c.in_ok-low.ensures.bytes c.in_ok-high.ensures.bytes
