-- SPDX-License-Identifier: Apache-2.0
use Rattle.mkey.proofs.KeyWords.{ap, sym, ◌∙◌, drop, head_number}
use Rattle.mkey.proofs.Heads.{head_of_number}
use Rattle.mkey.proofs.head.word.Goals as goal

pub returns-then-bytes-ge-WORD_BYTES : goal.returns-then-bytes-ge-WORD_BYTES
returns-then-bytes-ge-WORD_BYTES c =
    sym (head_of_number 8 c.first_word.result (drop 8 c.args.bytes.now) c.first_word.type_inv) ∙ ap (head_number 8) (sym c.first_word.ensures)
