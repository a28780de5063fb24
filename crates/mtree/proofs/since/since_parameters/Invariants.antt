-- SPDX-License-Identifier: Apache-2.0
use Rattle.std.proofs.Common.{◌≡◌, drop, map}
use Rattle.std.specs.Prelude.{max}
use Rattle.mtree.specs.Tree.{parameter_tree}
use Rattle.mgrammar.specs.Languages.{since_all, since_parameter}
use Rattle.mtree.proofs.since.since_parameters.Given as goal

abbrev pub invariant-loop-parameter : goal.invariant-loop-parameter
invariant-loop-parameter l = max l.since (since_all since_parameter (map parameter_tree (drop l.parameter-index l.parameters))) ≡ since_all since_parameter (map parameter_tree l.parameters)
