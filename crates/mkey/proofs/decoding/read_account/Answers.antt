-- SPDX-License-Identifier: Apache-2.0
use Rattle.mkey.proofs.KeyWords.{IsAccountName}
use Rattle.mkey.proofs.TextFronts.{other_found, not_so}
use Rattle.mkey.proofs.decoding.read_account.Goals as goal

pub returns-else-is_account_name : goal.returns-else-is_account_name
returns-else-is_account_name c =
    let found = rw c.in-Some.is at c.in_ok-text.ensures in
    other_found IsAccountName c.args.bytes.now c.in-Some.text c.in-Some.count found.0 (λ is. not_so (c.if-is_account_name.ensures.1 is))
