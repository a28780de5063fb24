-- SPDX-License-Identifier: Apache-2.0
use Rattle.mkey.proofs.KeyWords.{ap, sym, ◌∙◌, drop_all, head_number}
use Rattle.mkey.proofs.Heads.{head_nil}
use Rattle.mkey.proofs.head.back_half.Goals as goal

pub returns-then-bytes-le-HALF_BYTES : goal.returns-then-bytes-le-HALF_BYTES
returns-then-bytes-le-HALF_BYTES c = sym (ap (head_number 16) (drop_all 16 c.args.bytes.now c.if-bytes-le-HALF_BYTES.true) ∙ head_nil 16)
