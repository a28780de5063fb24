-- SPDX-License-Identifier: Apache-2.0
use Rattle.mkey.proofs.KeyWords.{IsName}
use Rattle.mkey.proofs.TextFronts.{other_found, no_name, not_so}
use Rattle.mkey.proofs.decoding.read_name.Goals as goal

pub returns-else-is_name : goal.returns-else-is_name
returns-else-is_name c =
    let found = rw c.in-Some.is at c.in_ok-text.ensures in
    other_found IsName c.args.bytes.now c.in-Some.text c.in-Some.count found.0 (λ is. not_so (c.if-is_name.ensures.1 is))

pub returns-in-None : goal.returns-in-None
returns-in-None c = no_name c.args.bytes.now (rw c.in-None.is at c.in_ok-text.ensures)
