-- SPDX-License-Identifier: Apache-2.0
use Rattle.std.proofs.Common.{◌≡◌, drop, map}
use Rattle.std.specs.Prelude.{◌||◌}
use Rattle.std.specs.List.{list_any}
use Rattle.mtree.specs.Tree.{parameter_tree}
use Rattle.mgrammar.specs.CallsIn.{has_call_parameter}
use Rattle.mtree.proofs.calls.has_call_parameters.Given as goal

abbrev pub invariant-loop-parameter : goal.invariant-loop-parameter
invariant-loop-parameter l = l.found || list_any has_call_parameter (map parameter_tree (drop l.parameter-index l.parameters)) ≡ list_any has_call_parameter (map parameter_tree l.parameters)
