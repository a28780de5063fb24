-- SPDX-License-Identifier: Apache-2.0
use Rattle.mkey.proofs.KeyWords.{◌∙◌, ap, slice_cmp, nat_cmp, key_bytes, significant_digits, key_order, none_empty}
use Rattle.mkey.proofs.key.NodeKeyOrd.cmp.Goals as goal

pub returns : goal.returns
returns c =
    c.compare.ensures ∙ ap (λ b. slice_cmp nat_cmp b c.as_bytes-2.result.now) c.as_bytes.ensures.bytes
    ∙ ap (slice_cmp nat_cmp (key_bytes significant_digits c.args.self.now)) c.as_bytes-2.ensures.bytes
    ∙ key_order significant_digits c.args.self.now c.args.other.now (none_empty c.args.self.now c.as_bytes.ensures.stored) (none_empty c.args.other.now c.as_bytes-2.ensures.stored)
