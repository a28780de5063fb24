-- SPDX-License-Identifier: Apache-2.0
use Rattle.std.proofs.Common.{◌≡◌, take}
use Rattle.mspec.specs.Literal.{digits_after}
use Rattle.mtree.specs.CappedCounts.{capped}
use Rattle.mtree.proofs.count.number.Given as goal

abbrev pub invariant-loop-digit : goal.invariant-loop-digit
invariant-loop-digit l = l.number ≡ capped (digits_after 0 (take l.digit-index l.digits))
