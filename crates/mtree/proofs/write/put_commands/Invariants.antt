-- SPDX-License-Identifier: Apache-2.0
use Rattle.std.proofs.Common.{◌≡◌, ◌++◌, drop, map}
use Rattle.mtree.specs.Tree.{spaced_tree}
use Rattle.mgrammar.specs.Grammar.{spell_commands}
use Rattle.mtree.proofs.write.put_commands.Given as goal

abbrev pub invariant-loop-spaced : goal.invariant-loop-spaced
invariant-loop-spaced l = l.out ++ spell_commands (map spaced_tree (drop l.spaced-index l.commands)) ≡ l.fn.out ++ spell_commands (map spaced_tree l.commands)
