-- SPDX-License-Identifier: Apache-2.0
use Rattle.mwire.proofs.WireWords.{rules, refl}
use Rattle.mwire.proofs.Sends.{SentUpTo-start, SentUpTo-more}
use Rattle.mwire.proofs.serving.write_whole.Goals as goal

pub loop-rest-init : goal.loop-rest-init
loop-rest-init g c = record { sent = SentUpTo-start _ _; works = refl; no_stall = refl }

pub loop-rest-preserved : goal.loop-rest-preserved
loop-rest-preserved g c = record { sent = SentUpTo-more _ _ _ _ _ _ c.loop-rest.invariant.sent c.in-Ok.ensures.bytes; works = search rules; no_stall = search rules }
