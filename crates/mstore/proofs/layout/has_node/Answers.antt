-- SPDX-License-Identifier: Apache-2.0
use Rattle.mstore.proofs.Words.{subst, sym, ◌∙◌, rules, Has, has_at}
use Rattle.mstore.proofs.layout.has_node.Goals as goal

pub returns-then-not-is_restricted : goal.returns-then-not-is_restricted
returns-then-not-is_restricted c _ =
    let schema = c.args.schema.now in
    let tree = c.table-item.result.tree in
    let at : Has schema.tables c.table-item.result = subst (λ l. Has l c.table-item.result) c.as_slice-table-items.ensures (has_at c.as_slice-table-items.result.now c.loop-table.table-index c.table-item.result c.loop-table-test.true c.table-item.is) in
    record {
      tree = tree;
      there = subst (Has schema.tables) (c.is_node.ensures.0 (search rules)) at;
      free = sym c.is_restricted.ensures ∙ (search rules);
    }
