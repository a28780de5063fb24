-- SPDX-License-Identifier: Apache-2.0
use Rattle.std.proofs.Common.{◌≡◌, drop, map}
use Rattle.std.specs.Prelude.{max}
use Rattle.mtree.specs.Tree.{arg_tree}
use Rattle.mgrammar.specs.Languages.{since_all, since_arg}
use Rattle.mtree.proofs.since.since_args.Given as goal

abbrev pub invariant-loop-arg : goal.invariant-loop-arg
invariant-loop-arg l = max l.since (since_all since_arg (map arg_tree (drop l.arg-index l.args))) ≡ since_all since_arg (map arg_tree l.args)
