-- SPDX-License-Identifier: Apache-2.0
use Rattle.mwire.proofs.WireWords.{sym, ◌∙◌}
use Rattle.mwire.proofs.Shown.{plain_block}
use Rattle.mwire.proofs.reply_bytes.push_block.Goals as goal

pub returns-then-is_plain : goal.returns-then-is_plain
returns-then-is_plain c =
    plain_block c.extend_from_slice.result _ _ c.args.block.now (sym c.is_plain.ensures ∙ c.if-is_plain.true) c.extend_from_slice.ensures.items
