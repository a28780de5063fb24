-- SPDX-License-Identifier: Apache-2.0
use Rattle.mstore.proofs.Words.{holds, true}
use Rattle.mstore.proofs.Tied.{step_told}
use Rattle.mstore.proofs.ahead.last_key.Goals as goal

pub returns-in-Some-clause-found : goal.returns-in-Some-clause-found
returns-in-Some-clause-found g c was sure agree =
    step_told g.S.Store c.args.conn.now was true c.args.low.now c.args.high.now _ (rw c.in-Some.is at c.in_ok-told.ensures (holds g.S.Store c.args.conn.now) agree)

pub returns-in-Some-clause-agrees : goal.returns-in-Some-clause-agrees
returns-in-Some-clause-agrees g c was sure agree = c.serve.ensures _ agree

pub returns-in-None-clause-agrees : goal.returns-in-None-clause-agrees
returns-in-None-clause-agrees g c was sure agree = c.settle.ensures.kept _ agree
