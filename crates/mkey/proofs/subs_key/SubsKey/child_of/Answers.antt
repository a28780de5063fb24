-- SPDX-License-Identifier: Apache-2.0
use Rattle.mkey.proofs.KeyWords.{◌≡◌, ◌∙◌, true, length, drop, ap, sym, arith, length-append, subscripts_bytes, significant_digits, is_within}
use Rattle.mkey.proofs.SubsKeys.{bytes_within}
use Rattle.mkey.proofs.subs_key.SubsKey.child_of.Goals as goal

pub behind-requires : goal.behind-requires
behind-requires c =
    let within : is_within c.args.above.now c.args.self.now ≡ true = sym c.is_within.ensures ∙ c.if-not-is_within.false in
    let bytes = bytes_within c.args.above.now c.args.self.now within in
    omega (
      arith,
      ap length c.as_bytes-2.ensures.bytes,
      ap length c.as_bytes.ensures.bytes,
      ap length bytes,
      length-append (subscripts_bytes significant_digits c.args.above.now) (subscripts_bytes significant_digits (drop (length c.args.above.now) c.args.self.now)),
    )
