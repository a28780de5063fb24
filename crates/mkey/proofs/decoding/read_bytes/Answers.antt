-- SPDX-License-Identifier: Apache-2.0
use Rattle.mkey.proofs.KeyWords.{◌++◌, ap, sym, ◌∙◌, big_endian}
use Rattle.mkey.proofs.NumberBytes.{word_pair}
use Rattle.mkey.proofs.decoding.read_bytes.Goals as goal

pub returns : goal.returns
returns c =
    word_pair c.args.bytes.now c.behind.result.now c.first_word-high.result c.first_word-low.result c.first_word-high.type_inv c.first_word-low.type_inv
    (c.first_word-high.ensures ∙ ap (λ b. big_endian 8 c.first_word-high.result ++ b) (sym c.behind.ensures)) c.first_word-low.ensures
