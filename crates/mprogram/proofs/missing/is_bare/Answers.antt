-- SPDX-License-Identifier: Apache-2.0
use Rattle.std.proofs.Common.{sym}
use Rattle.mtree.specs.Tree.{actual_tree}
use Rattle.mprogram.proofs.MissingActuals.{several_apart}
use Rattle.mprogram.proofs.missing.is_bare.Goals as goal

pub returns-in_default-2 : goal.returns-in_default-2
returns-in_default-2 c = sym (several_apart actual_tree c.args.actuals.now c.in_default.len_at_least)
