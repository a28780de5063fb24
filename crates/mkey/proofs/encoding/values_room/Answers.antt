-- SPDX-License-Identifier: Apache-2.0
use Rattle.mkey.proofs.KeyWords.{[], arith, All-from_get_or, IsAscii}
use Rattle.mkey.proofs.encoding.values_room.Goals as goal

pub returns-clause-ascii : goal.returns-clause-ascii
returns-clause-ascii c =
    All-from_get_or IsAscii c.args.subs.now [] (λ k inside. c.loop-value.invariant.ascii k (let end = c.loop-value-test.false in omega arith))
