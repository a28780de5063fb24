-- SPDX-License-Identifier: Apache-2.0
use Rattle.std.proofs.Common.{◌≡◌, drop, map}
use Rattle.std.specs.Prelude.{max}
use Rattle.mtree.specs.Tree.{target_tree}
use Rattle.mgrammar.specs.Languages.{since_all, since_target}
use Rattle.mtree.proofs.since.since_targets.Given as goal

abbrev pub invariant-loop-target : goal.invariant-loop-target
invariant-loop-target l = max l.since (since_all since_target (map target_tree (drop l.target-index l.targets))) ≡ since_all since_target (map target_tree l.targets)
