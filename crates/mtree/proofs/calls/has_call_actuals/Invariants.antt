-- SPDX-License-Identifier: Apache-2.0
use Rattle.std.proofs.Common.{◌≡◌, drop, map}
use Rattle.std.specs.Prelude.{◌||◌}
use Rattle.mtree.specs.Tree.{actual_tree}
use Rattle.mgrammar.specs.Grammar.{actuals_of}
use Rattle.mgrammar.specs.CallsIn.{has_call_actuals}
use Rattle.mtree.proofs.calls.has_call_actuals.Given as goal

abbrev pub invariant-loop-actual : goal.invariant-loop-actual
invariant-loop-actual l = l.found || has_call_actuals (actuals_of (map actual_tree (drop l.actual-index l.actuals))) ≡ has_call_actuals (actuals_of (map actual_tree l.actuals))
