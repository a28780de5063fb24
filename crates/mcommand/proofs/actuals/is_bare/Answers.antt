-- SPDX-License-Identifier: Apache-2.0
use Rattle.mcommand.proofs.CommandWords.{arith}
use Rattle.mtree.specs.Tree.{actual_tree}
use Rattle.mcommand.proofs.Handed.{bare_one, not_bare}
use Rattle.mcommand.proofs.actuals.is_bare.Goals as goal

pub returns-in-len1 : goal.returns-in-len1
returns-in-len1 c = bare_one actual_tree c.args.actuals.now c.only-item.result _ (omega (arith, c.in-len1.len_at_least, c.in-len1.len_below)) c.only-item.is c.is_missing.ensures

pub returns-in_default : goal.returns-in_default
returns-in_default c = not_bare actual_tree c.args.actuals.now (λ one. omega (arith, one, c.in_default.len_below))

pub returns-in_default-2 : goal.returns-in_default-2
returns-in_default-2 c = not_bare actual_tree c.args.actuals.now (λ one. omega (arith, one, c.in_default.len_at_least))
