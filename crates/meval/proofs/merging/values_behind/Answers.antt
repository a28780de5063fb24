-- SPDX-License-Identifier: Apache-2.0
use Rattle.meval.proofs.EvalWords.{arith}
use Rattle.meval.proofs.MergeRuns.{behind_none}
use Rattle.meval.proofs.merging.values_behind.Goals as goal

pub returns-then-count-values : goal.returns-then-count-values
returns-then-count-values c = behind_none c.args.count c.args.values.now (omega (arith, c.if-count-values.true))
