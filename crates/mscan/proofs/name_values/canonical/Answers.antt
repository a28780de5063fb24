-- SPDX-License-Identifier: Apache-2.0
use Rattle.std.proofs.Common.{false, true, refl}
use Rattle.mscan.proofs.CanonicalTexts.{canonical_told}
use Rattle.mscan.proofs.name_values.canonical.Goals as goal

pub returns-then-not-is_canonical : goal.returns-then-not-is_canonical
returns-then-not-is_canonical c = rw (canonical_told false c.args.number.now c.if-not-is_canonical.ensures) refl

pub returns : goal.returns
returns c = rw (canonical_told true c.args.number.now c.if-not-is_canonical.ensures, c.in_ok-from_slice.ensures) refl
