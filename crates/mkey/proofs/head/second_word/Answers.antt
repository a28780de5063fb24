-- SPDX-License-Identifier: Apache-2.0
use Rattle.mkey.proofs.KeyWords.{ap, sym, ◌∙◌, drop_all, head_number}
use Rattle.mkey.proofs.Heads.{head_nil}
use Rattle.mkey.proofs.head.second_word.Goals as goal

pub returns-then-bytes-le-WORD_BYTES : goal.returns-then-bytes-le-WORD_BYTES
returns-then-bytes-le-WORD_BYTES c = sym (ap (head_number 8) (drop_all 8 c.args.bytes.now c.if-bytes-le-WORD_BYTES.true) ∙ head_nil 8)
