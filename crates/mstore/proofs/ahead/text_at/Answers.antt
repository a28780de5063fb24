-- SPDX-License-Identifier: Apache-2.0
use Rattle.mstore.proofs.Words.{holds, rules}
use Rattle.mstore.proofs.Tied.{values_in_form}
use Rattle.mstore.proofs.ahead.text_at.Goals as goal

pub returns-in_err-text-clause-store : goal.returns-in_err-text-clause-store
returns-in_err-text-clause-store g c beneath was unlimited agree =
    let told = c.text.ensures.told (holds g.S.Store c.args.conn.now) agree (values_in_form g.S.Store c.args.conn.now was) in
    search rules

pub returns-in-Some-clause-agrees : goal.returns-in-Some-clause-agrees
returns-in-Some-clause-agrees g c was sure agree = c.serve.ensures _ agree

pub returns-in-Some-clause-found : goal.returns-in-Some-clause-found
returns-in-Some-clause-found g c was sure agree = rw c.in-Some.is at c.in_ok-text.ensures.found (holds g.S.Store c.args.conn.now) agree

pub returns-clause-agrees : goal.returns-clause-agrees
returns-clause-agrees g c was sure agree = c.settle.ensures.kept _ agree
