-- SPDX-License-Identifier: Apache-2.0
use Rattle.mwire.proofs.WireWords.{refl, ap, ◌∙◌, map, event_of, told_of, replies_of, told_text}
use Rattle.mwire.proofs.RepliesSent.{unread, untold, unwritten, written, ran_only}
use Rattle.mwire.proofs.only.serve_only.Goals as goal

pub returns-in-Err-clause-serves : goal.returns-in-Err-clause-serves
returns-in-Err-clause-serves g c =
    let reads = c.in-Err.ensures.reads in
    unread _ _ _ _ _ _ _ _ reads.read reads.consumed c.in-Err.fault reads.outcome refl refl

pub returns-in_default-clause-serves : goal.returns-in_default-clause-serves
returns-in_default-clause-serves g c =
    let reads = c.in-Ok.ensures.reads in
    let law = c.in_default.ensures in
    untold _ _ _ _ _ _ _ _ reads.read reads.consumed _ (ap (map event_of) c.deref.ensures.value ∙ reads.outcome.1)
    law.first law.first_until_shut law.doubt refl

pub returns-in-Ok-write_replies-clause-serves : goal.returns-in-Ok-write_replies-clause-serves
returns-in-Ok-write_replies-clause-serves g c =
    let reads = c.in-Ok.ensures.reads in
    let law = c.in-Ok-isolated_replies.ensures in
    written _ _ _ _ _ _ _ _ reads.read reads.consumed reads.outcome.0 _ _
    (ran_only _ _ _ _ _ _ (ap (map event_of) c.deref.ensures.value ∙ reads.outcome.1) (replies_of c.in-Ok-isolated_replies.isolated) _ _
    (ap (λ (ts : _). told_text (map told_of ts)) c.deref-2.ensures.value) law.each law.told law.alone law.told_until_shut law.sufficed)
    law.doubt c.in-Ok-write_replies.ensures.sent

pub returns-clause-serves : goal.returns-clause-serves
returns-clause-serves g c =
    let reads = c.in-Ok.ensures.reads in
    let law = c.in-Ok-isolated_replies.ensures in
    unwritten _ _ _ _ _ _ _ _ reads.read reads.consumed reads.outcome.0 _ _
    (ran_only _ _ _ _ _ _ (ap (map event_of) c.deref.ensures.value ∙ reads.outcome.1) (replies_of c.in-Ok-isolated_replies.isolated) _ _
    (ap (λ (ts : _). told_text (map told_of ts)) c.deref-2.ensures.value) law.each law.told law.alone law.told_until_shut law.sufficed)
    law.doubt c.in-Err-write_replies.fault c.in-Err-write_replies.ensures.fault.0 _ c.in-Err-write_replies.ensures.sent
