-- SPDX-License-Identifier: Apache-2.0
use Rattle.mstore.proofs.Words.{rules, has_at}
use Rattle.mstore.proofs.opening.are_nodes.Goals as goal

pub returns-then-not-branch-clause-other : goal.returns-then-not-branch-clause-other
returns-then-not-branch-clause-other c _ = (
  c.row-item.result,
  has_at c.args.rows.now c.loop-row.row-index c.row-item.result c.loop-row-test.true c.row-item.is,
  λ shows. let passes = c.in_ok-is_node.ensures.1 shows in search rules,
)
