-- SPDX-License-Identifier: Apache-2.0
use Rattle.mkey.proofs.KeyWords.{ap₂, sym, ◌∙◌, ◌+◌, ◌*◌, ◌^◌, refl}
use Rattle.mkey.proofs.Heads.{head_parts}
use Rattle.mkey.proofs.head.Half.of.Goals as goal

pub returns : goal.returns
returns c = ap₂ (λ high low. high * 256 ^ 8 + low) c.word.ensures c.second_word.ensures ∙ sym (head_parts 8 8 16 c.args.bytes.now refl)
