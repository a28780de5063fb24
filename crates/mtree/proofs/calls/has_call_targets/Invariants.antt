-- SPDX-License-Identifier: Apache-2.0
use Rattle.std.proofs.Common.{◌≡◌, drop, map}
use Rattle.std.specs.Prelude.{◌||◌}
use Rattle.std.specs.List.{list_any}
use Rattle.mtree.specs.Tree.{target_tree}
use Rattle.mgrammar.specs.CallsIn.{has_call_target}
use Rattle.mtree.proofs.calls.has_call_targets.Given as goal

abbrev pub invariant-loop-target : goal.invariant-loop-target
invariant-loop-target l = l.found || list_any has_call_target (map target_tree (drop l.target-index l.targets)) ≡ list_any has_call_target (map target_tree l.targets)
