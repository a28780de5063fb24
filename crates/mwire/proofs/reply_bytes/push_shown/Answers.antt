-- SPDX-License-Identifier: Apache-2.0
use Rattle.mwire.proofs.Shown.{shown_block}
use Rattle.mwire.proofs.reply_bytes.push_shown.Goals as goal

pub loop-rest-preserved : goal.loop-rest-preserved
loop-rest-preserved c =
    shown_block c.loop-rest.out.items _ c.split_at.result.0.now c.split_at.result.1.now c.loop-rest.rest.now _ c.split_at.ensures.by_index.0 c.in_ok-push_block.ensures c.loop-rest.invariant
