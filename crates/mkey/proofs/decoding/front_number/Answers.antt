-- SPDX-License-Identifier: Apache-2.0
use Rattle.mkey.proofs.KeyWords.{ap, ◌∙◌, arith, big_endian, number_bytes}
use Rattle.mkey.proofs.TextFronts.{match_map}
use Rattle.mkey.proofs.SubscriptFronts.{too_short, no_number}
use Rattle.mkey.proofs.decoding.front_number.Goals as goal

pub returns-then-bytes-lt16 : goal.returns-then-bytes-lt16
returns-then-bytes-lt16 c = too_short 18 c.args.bytes.now c.if-bytes-lt16.true

pub returns : goal.returns
unfolding number_bytes
returns c =
    match_map c.lowered.result
    (λ none. no_number 18 c.args.bytes.now c.read_bytes.result (omega arith) c.read_bytes.ensures c.read_bytes.type_inv none)
    (λ n raised. record { fits = c.if-bytes-lt16.false; is = ap (big_endian 16) raised ∙ c.read_bytes.ensures })
    c.lowered.ensures
