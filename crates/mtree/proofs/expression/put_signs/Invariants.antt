-- SPDX-License-Identifier: Apache-2.0
use Rattle.std.proofs.Common.{◌≡◌, ◌++◌, drop, map}
use Rattle.mtree.specs.Tree.{sign_tree}
use Rattle.mgrammar.specs.Grammar.{spell_signs}
use Rattle.mtree.proofs.expression.put_signs.Given as goal

abbrev pub invariant-loop-sign : goal.invariant-loop-sign
invariant-loop-sign l = l.out ++ spell_signs (map sign_tree (drop l.sign-index l.signs)) ≡ l.fn.out ++ spell_signs (map sign_tree l.signs)
