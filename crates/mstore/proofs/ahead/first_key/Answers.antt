-- SPDX-License-Identifier: Apache-2.0
use Rattle.mstore.proofs.Words.{arith, ◌≡◌, ◌∙◌, false, option_map, IfOk, subst, step_key}
use Rattle.mspec.specs.Globals.{Globals}
use Rattle.mstore.proofs.Doubting.{memory_is_sure}
use Rattle.mstore.proofs.Tied.{step_told}
use Rattle.mstore.proofs.Tables.{kept_then}
use Rattle.mstore.proofs.ahead.first_key.Goals as goal

pub returns-in-Some-clause-doubt : goal.returns-in-Some-clause-doubt
returns-in-Some-clause-doubt g c = record { order = c.key_ahead.ensures.order; failed = λ sure was is_shut. rw c.in-Some.is at c.in_ok-key.ensures.read sure is_shut }

pub returns-in-Some-clause-found : goal.returns-in-Some-clause-found
returns-in-Some-clause-found g c was sure agree =
    step_told g.S.Store c.args.conn.now was false c.args.low.now c.args.high.now _ (rw c.in-Some.is at c.in_ok-key.ensures.found was sure agree)

pub returns-in-None-clause-doubt : goal.returns-in-None-clause-doubt
returns-in-None-clause-doubt g c =
    record { order = omega (arith, c.key_ahead.ensures.order, c.key_within-key.ensures.doubt.order); failed = λ sure was is_shut. c.key_within-key.ensures.answered is_shut }

pub returns-in-None-clause-kept : goal.returns-in-None-clause-kept
returns-in-None-clause-kept g c =
    kept_then g.S.Store c.args.conn.now c.key_ahead.new.conn c.key_within-key.new.conn c.key_within-key.ensures.doubt.order c.key_ahead.ensures.kept c.key_within-key.ensures.kept

pub returns-in-None-clause-agrees : goal.returns-in-None-clause-agrees
returns-in-None-clause-agrees g c was sure agree =
    c.settle.ensures.kept _ (c.key_ahead.ensures.agrees was (omega (arith, c.key_within-key.ensures.doubt.order, sure)) agree)

pub returns-in-None-clause-store : goal.returns-in-None-clause-store
returns-in-None-clause-store g c beneath was unlimited =
    c.key_within-key.ensures.store beneath (c.key_ahead.ensures.kept was (memory_is_sure g.S.Store c.key_ahead.new.conn beneath.memory)).0 (c.key_ahead.ensures.limit ∙ unlimited)

pub returns-in-None-clause-found : goal.returns-in-None-clause-found
returns-in-None-clause-found g c was sure agree =
    let kept = c.key_ahead.ensures.kept was (omega (arith, c.key_within-key.ensures.doubt.order, sure)) in
    subst (λ (s : Globals). IfOk c.key_within-key.result (λ key. option_map (λ bytes. bytes.items) key ≡ step_key false s c.args.low.now c.args.high.now)) kept.1
    (c.key_within-key.ensures.found kept.0 sure)
