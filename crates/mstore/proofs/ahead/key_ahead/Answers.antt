-- SPDX-License-Identifier: Apache-2.0
use Rattle.mstore.proofs.Words.{arith, holds}
use Rattle.mstore.proofs.ahead.key_ahead.Goals as goal

pub returns-in-Some-clause-read : goal.returns-in-Some-clause-read
returns-in-Some-clause-read g c sure is_shut = absurd (omega (arith, sure, is_shut))

pub returns-in-Some-clause-agrees : goal.returns-in-Some-clause-agrees
returns-in-Some-clause-agrees g c was sure agree = c.serve.ensures _ agree

pub returns-in-Some-clause-found : goal.returns-in-Some-clause-found
returns-in-Some-clause-found g c was sure agree = rw c.in-Some.is at c.in_ok-key.ensures (holds g.S.Store c.args.conn.now) agree
