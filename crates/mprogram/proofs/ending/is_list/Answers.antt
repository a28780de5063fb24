-- SPDX-License-Identifier: Apache-2.0
use Rattle.std.proofs.Common.{sym}
use Rattle.mtree.specs.Tree.{actual_tree}
use Rattle.mprogram.proofs.MissingActuals.{some_listed}
use Rattle.mprogram.proofs.ending.is_list.Goals as goal

pub returns-in_default : goal.returns-in_default
returns-in_default c = sym (some_listed actual_tree c.args.actuals.now c.in_default.len_at_least)
