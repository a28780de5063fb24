-- SPDX-License-Identifier: Apache-2.0
use Rattle.mstore.proofs.Words.{sym, rules}
use Rattle.mstore.proofs.Doubting.{memory_is_sure}
use Rattle.mstore.proofs.Tied.{value_in_form, value_told}
use Rattle.mstore.proofs.ahead.value_at.Goals as goal

pub returns-in_default-clause-found : goal.returns-in_default-clause-found
returns-in_default-clause-found g c was sure = sym (rw c.in_default.is at c.in_ok-row.ensures.found was sure)

pub returns-clause-found : goal.returns-clause-found
returns-clause-found g c was sure =
    value_told _ c.in-Some.row c.in_ok-text.text (rw c.in-Some.is at c.in_ok-row.ensures.found was sure) c.in_ok-text.ensures.text

pub returns-in_err-text-clause-store : goal.returns-in_err-text-clause-store
returns-in_err-text-clause-store g c beneath was unlimited =
    let shows = rw c.in-Some.is at c.in_ok-row.ensures.found was (memory_is_sure g.S.Store c.find_value.new.conn beneath.memory) in
    let value = value_in_form g.S.Store c.args.conn.now was c.args.key.now c.in-Some.row shows in
    let told = c.text_in.ensures.told value.0 value.1 value.2 in
    search rules
