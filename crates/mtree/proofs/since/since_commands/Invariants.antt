-- SPDX-License-Identifier: Apache-2.0
use Rattle.std.proofs.Common.{◌≡◌, drop, map}
use Rattle.std.specs.Prelude.{max}
use Rattle.mtree.specs.Tree.{spaced_tree}
use Rattle.mgrammar.specs.Languages.{since_all, since_spaced}
use Rattle.mtree.proofs.since.since_commands.Given as goal

abbrev pub invariant-loop-spaced : goal.invariant-loop-spaced
invariant-loop-spaced l = max l.since (since_all since_spaced (map spaced_tree (drop l.spaced-index l.commands))) ≡ since_all since_spaced (map spaced_tree l.commands)
