-- SPDX-License-Identifier: Apache-2.0
use Rattle.mstore.proofs.Words.{false, Ok, ap, holds}
use Rattle.mstore.proofs.ahead.key_read.Goals as goal

pub returns-then-most-lt2-clause-agrees : goal.returns-then-most-lt2-clause-agrees
returns-then-most-lt2-clause-agrees g c was sure agree = c.count-most.ensures _ agree

pub returns-in_err-key-clause-agrees : goal.returns-in_err-key-clause-agrees
returns-in_err-key-clause-agrees g c was sure agree = c.serve.ensures _ (c.read_on.ensures.agrees was sure)

pub returns-clause-agrees : goal.returns-clause-agrees
returns-clause-agrees g c was sure agree = c.serve.ensures _ (c.read_on.ensures.agrees was sure)

pub returns-clause-read : goal.returns-clause-read
returns-clause-read g c is_shut = absurd (c.in_ok-is_read.ensures.read is_shut (ap Ok c.if-not-is_read.false))

pub returns-clause-found : goal.returns-clause-found
returns-clause-found g c was sure agree = c.in_ok-key.ensures (holds g.S.Store c.args.conn.now) (c.serve.ensures _ (c.read_on.ensures.agrees was sure))
