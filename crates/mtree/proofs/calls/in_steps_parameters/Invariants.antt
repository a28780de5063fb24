-- SPDX-License-Identifier: Apache-2.0
use Rattle.std.proofs.Common.{◌≡◌, drop, map}
use Rattle.std.specs.Prelude.{◌&&◌}
use Rattle.std.specs.List.{list_all}
use Rattle.mtree.specs.Tree.{parameter_tree}
use Rattle.mgrammar.specs.ProgramsIn.{in_steps_parameter}
use Rattle.mtree.proofs.calls.in_steps_parameters.Given as goal

abbrev pub invariant-loop-parameter : goal.invariant-loop-parameter
invariant-loop-parameter l =
    l.all && list_all in_steps_parameter (map parameter_tree (drop l.parameter-index l.parameters))
    ≡ list_all in_steps_parameter (map parameter_tree l.parameters)
