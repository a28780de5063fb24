-- SPDX-License-Identifier: Apache-2.0
use Rattle.std.proofs.Common.{sym, arith}
use Rattle.mtree.specs.Tree.{expr_tree}
use Rattle.mprogram.proofs.Counting.{others_counted, too_many, value_counted, value_longer}
use Rattle.mprogram.proofs.counts.steps_in_value.Goals as goal

pub returns-in-Op : goal.returns-in-Op
returns-in-Op c = too_many _ _ (value_longer (expr_tree c.args.expr.now) _ _ (sym c.in-Op.ensures)) (omega arith)

pub returns-in-Past : goal.returns-in-Past
returns-in-Past c =
    others_counted _ _ c.in-Past.left (value_counted (expr_tree c.args.expr.now) _ c.in-Past.left (sym c.in-Past.ensures)) (omega arith)
