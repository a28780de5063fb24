-- SPDX-License-Identifier: Apache-2.0
use Rattle.mstore.proofs.Words.{true≢false}
use Rattle.mstore.proofs.ahead.read_on.Goals as goal

pub returns-in-Ok-clause-read : goal.returns-in-Ok-clause-read
returns-in-Ok-clause-read g c is_shut same = absurd (true≢false (c.in-Ok.ensures.answered is_shut))

pub returns-in-Ok-clause-agrees : goal.returns-in-Ok-clause-agrees
returns-in-Ok-clause-agrees g c was sure = c.take.ensures _ (c.in-Ok.ensures.found was sure)

pub returns-in-Err-Memory-clause-agrees : goal.returns-in-Err-Memory-clause-agrees
returns-in-Err-Memory-clause-agrees g c was sure = c.clear.ensures _

pub returns-in-Err-Store-clause-agrees : goal.returns-in-Err-Store-clause-agrees
returns-in-Err-Store-clause-agrees g c was sure = c.clear-in-Err-Store.ensures _
