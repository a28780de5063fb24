-- SPDX-License-Identifier: Apache-2.0
use Rattle.std.proofs.Common.{◌≡◌, ◌++◌, drop, map}
use Rattle.mgrammar.specs.ReadingWords.{signs_of, after_signs}
use Rattle.mtree.specs.Tree.{sign_tree}
use Rattle.mscan.proofs.operator.signs.Given as goal

abbrev pub invariant-loop-i : goal.invariant-loop-i
invariant-loop-i l = (signs_of l.bytes ≡ map sign_tree l.signs.items ++ signs_of (drop l.i l.bytes)) × (after_signs l.bytes ≡ after_signs (drop l.i l.bytes))
