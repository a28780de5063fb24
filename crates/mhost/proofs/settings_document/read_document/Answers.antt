-- SPDX-License-Identifier: Apache-2.0
use Rattle.std.proofs.Common.{◌<◌, ◌≤◌, length, arith}
use Rattle.mhost.proofs.DocumentsRead.{read_whole, read_too_much}
use Rattle.mhost.proofs.settings_document.read_document.Goals as goal

pub returns-then-len-gt-MAX_DOCUMENT-clause-err : goal.returns-then-len-gt-MAX_DOCUMENT-clause-err
returns-then-len-gt-MAX_DOCUMENT-clause-err g c = λ tells.
    let long : 1000000 < length c.in-Ok.bytes.items = omega (arith, c.len.ensures, c.if-len-gt-MAX_DOCUMENT.true) in
    read_too_much _ _ (c.in-Ok.ensures.bytes tells) long

pub returns-else-len-gt-MAX_DOCUMENT-clause-ok : goal.returns-else-len-gt-MAX_DOCUMENT-clause-ok
returns-else-len-gt-MAX_DOCUMENT-clause-ok g c = λ tells.
    let short : length c.in-Ok.bytes.items ≤ 1000000 = omega (arith, c.len.ensures, c.if-len-gt-MAX_DOCUMENT.false) in
    read_whole _ _ (c.in-Ok.ensures.bytes tells) short
