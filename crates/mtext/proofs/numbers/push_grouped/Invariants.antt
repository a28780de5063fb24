-- SPDX-License-Identifier: Apache-2.0
use Rattle.mtext.proofs.TextWords.{◌≡◌, ◌++◌, drop}
use Rattle.mspec.specs.NumberFormats.{grouped}
use Rattle.mtext.proofs.numbers.push_grouped.Given as goal

abbrev pub invariant-loop-i : goal.invariant-loop-i
invariant-loop-i l = l.out ++ grouped (drop l.i l.digits) ≡ l.initial.out ++ grouped l.digits
