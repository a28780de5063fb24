-- SPDX-License-Identifier: Apache-2.0
use Rattle.mkey.proofs.KeyWords.{length, ap, arith, length-append, subscript_bytes}
use Rattle.mkey.proofs.SubscriptFronts.{number_long}
use Rattle.mkey.proofs.ancestors.number_len.Goals as goal

pub returns-clause-subscript : goal.returns-clause-subscript
returns-clause-subscript c s rest e =
    let long = number_long 18 s c.args.bytes.now rest e in
    let whole = ap length e in
    grind (arith, long, whole, length-append (subscript_bytes 18 s) rest)
