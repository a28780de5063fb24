-- SPDX-License-Identifier: Apache-2.0
use Rattle.std.proofs.Common.{◌≡◌, drop, map}
use Rattle.std.specs.Prelude.{◌&&◌}
use Rattle.std.specs.List.{list_all}
use Rattle.mtree.specs.Tree.{target_tree}
use Rattle.mgrammar.specs.ProgramsIn.{in_steps_target}
use Rattle.mtree.proofs.calls.in_steps_targets.Given as goal

abbrev pub invariant-loop-target : goal.invariant-loop-target
invariant-loop-target l =
    l.all && list_all in_steps_target (map target_tree (drop l.target-index l.targets)) ≡ list_all in_steps_target (map target_tree l.targets)
