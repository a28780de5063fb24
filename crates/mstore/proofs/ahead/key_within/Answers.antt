-- SPDX-License-Identifier: Apache-2.0
use Rattle.mstore.proofs.Words.{is_down, rules}
use Rattle.mstore.proofs.Doubting.{memory_is_sure}
use Rattle.mstore.proofs.Tied.{step_none, step_some}
use Rattle.mstore.proofs.ahead.key_within.Goals as goal

pub returns-in_default-clause-found : goal.returns-in_default-clause-found
returns-in_default-clause-found g c was sure =
    step_none g.S.Store c.args.conn.now was (is_down c.args.direction) c.args.low.now c.args.high.now (rw c.in_default.is at c.in_ok-row.ensures.found was sure)

pub returns-clause-found : goal.returns-clause-found
returns-clause-found g c was sure =
    step_some g.S.Store c.args.conn.now was (is_down c.args.direction) c.args.low.now c.args.high.now c.in-Some.row c.in_ok-bytes.bytes.items (rw c.in-Some.is at c.in_ok-row.ensures.found was sure) c.in_ok-bytes.ensures.bytes

pub returns-in_err-bytes-clause-store : goal.returns-in_err-bytes-clause-store
returns-in_err-bytes-clause-store g c beneath was unlimited =
    let shows = rw c.in-Some.is at c.in_ok-row.ensures.found was (memory_is_sure g.S.Store c.find_key.new.conn beneath.memory) in
    let refused = c.bytes_in.ensures.told shows.0 shows.1 in
    search rules
