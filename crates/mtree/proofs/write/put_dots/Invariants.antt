-- SPDX-License-Identifier: Apache-2.0
use Rattle.std.proofs.Common.{◌≡◌, ◌++◌, drop}
use Rattle.mgrammar.specs.RoutineLine.{spell_dots}
use Rattle.mtree.proofs.write.put_dots.Given as goal

abbrev pub invariant-loop-spaces : goal.invariant-loop-spaces
invariant-loop-spaces l = l.out ++ spell_dots (drop l.spaces-index l.dots) ≡ l.fn.out ++ spell_dots l.dots
