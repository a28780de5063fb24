-- SPDX-License-Identifier: Apache-2.0
use Rattle.std.proofs.Common.{◌≡◌, ◌+◌, ◌-◌, take}
use Rattle.std.specs.Prelude.{min}
use Rattle.mspec.specs.Literal.{digits_after}
use Rattle.mtree.proofs.count.is_below.Given as goal

abbrev pub invariant-loop-place : goal.invariant-loop-place
invariant-loop-place l = l.lead ≡ min (digits_after 0 (take (l.place - l.before) l.digits) + 23 - digits_after 0 (take (l.place - l.others_before) l.others)) 46
