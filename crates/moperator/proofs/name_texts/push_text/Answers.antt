-- SPDX-License-Identifier: Apache-2.0
use Rattle.std.proofs.Common.{true, false}
use Rattle.mscan.proofs.CanonicalTexts.{canonical_told}
use Rattle.moperator.proofs.name_texts.push_text.Goals as goal

pub returns-then-is_canonical : goal.returns-then-is_canonical
returns-then-is_canonical c =
    let told = rw c.as_bytes-bytes.ensures.bytes at c.if-is_canonical.ensures in
    let appended = rw c.as_bytes-bytes.ensures.bytes at c.append.ensures.ok in
    rw (canonical_told true c.args.text.now told) appended

pub returns-else-is_canonical : goal.returns-else-is_canonical
returns-else-is_canonical c =
    let told = rw c.as_bytes-bytes.ensures.bytes at c.if-is_canonical.ensures in
    rw (canonical_told false c.args.text.now told) c.put_string.ensures
