-- SPDX-License-Identifier: Apache-2.0
use Rattle.mmemory.proofs.MemoryLaws.{order_of, sorted_shape, tree_rows, falls_below_key, falls_up_to_key, rows_shaped, forward_seen, backward_seen}
use Rattle.mmemory.proofs.memory.Memory.placed.Goals as goal

pub find-place-requires : goal.find-place-requires
find-place-requires c =
    let it = c.in-Some.found.now in
    let found = rw c.deref.ensures.value at c.in-Some.ensures.lookup in
    rw c.order-order.ensures (falls_below_key (order_of it.shape) c.args.key.now (tree_rows it) (sorted_shape _ _ (rows_shaped c.args.self.now.held c.args.tree it found.3.0 found.1)))

pub find-place-requires-in-Backward : goal.find-place-requires-in-Backward
find-place-requires-in-Backward c =
    let it = c.in-Some.found.now in
    let found = rw c.deref.ensures.value at c.in-Some.ensures.lookup in
    rw c.order-order.ensures (falls_up_to_key (order_of it.shape) c.args.key.now (tree_rows it) (sorted_shape _ _ (rows_shaped c.args.self.now.held c.args.tree it found.3.0 found.1)))

pub returns-in-Forward : goal.returns-in-Forward
returns-in-Forward c =
    let found = rw c.deref.ensures.value at c.in-Some.ensures.lookup in
    rw c.in-Forward.is (forward_seen c.args.self.now.held c.args.tree c.in-Some.found.now found.3.0 found.1 _ c.order-order.ensures c.args.key.now c.find-place.result c.find-place.ensures.splits)

pub returns-in-Backward : goal.returns-in-Backward
returns-in-Backward c =
    let found = rw c.deref.ensures.value at c.in-Some.ensures.lookup in
    rw c.in-Backward.is
    (backward_seen c.args.self.now.held c.args.tree c.in-Some.found.now found.3.0 found.1 _ c.order-order.ensures c.args.key.now c.find-place-in-Backward.result c.find-place-in-Backward.ensures.splits)
