-- SPDX-License-Identifier: Apache-2.0
use Rattle.mkey.proofs.KeyWords.{ap₂, sym, ◌∙◌, ◌+◌, ◌*◌, ◌^◌, refl}
use Rattle.mkey.proofs.Heads.{head_parts}
use Rattle.mkey.proofs.head.Head.of.Goals as goal

pub returns : goal.returns
returns c = ap₂ (λ front back. front * 256 ^ 16 + back) c.of.ensures c.back_half.ensures ∙ sym (head_parts 16 16 32 c.args.bytes.now refl)
