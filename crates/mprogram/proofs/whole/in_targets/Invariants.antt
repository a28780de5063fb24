-- SPDX-License-Identifier: Apache-2.0
use Rattle.std.proofs.Common.{◌≡◌, drop, map}
use Rattle.mtree.specs.Tree.{target_tree}
use Rattle.mprogram.specs.Found.{in_targets}
use Rattle.mprogram.proofs.whole.in_targets.Given as goal

abbrev pub invariant-loop-target : goal.invariant-loop-target
invariant-loop-target l = in_targets (map target_tree (drop l.target-index l.targets)) l.left ≡ in_targets (map target_tree l.targets) l.fn.at
