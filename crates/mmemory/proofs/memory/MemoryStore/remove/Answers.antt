-- SPDX-License-Identifier: Apache-2.0
use Rattle.mmemory.proofs.MemoryLaws.{true, refl, sym, ap, ◌∙◌, arith, subst, Index, remove_entry, order_of, no_doubt, Memory, Writes, rows_of, current}
use Rattle.mmemory.proofs.MemoryLaws.{memory_view, written, sets_frame, fails_kept, shape_is, index_within}
use Rattle.mmemory.proofs.memory.MemoryStore.remove.Goals as goal

pub remove-requires-clause-tree : goal.remove-requires-clause-tree
remove-requires-clause-tree c = index_within c.args.self.now c.args.index (omega arith) _ (c.requires (no_doubt true refl))

pub remove-requires-clause-index : goal.remove-requires-clause-index
remove-requires-clause-index c =
    shape_is c.args.self.now c.args.index (omega arith) ∙ c.requires (no_doubt true refl) ∙ ap Index (sym (c.order-order.ensures ∙ ap order_of c.shape.ensures))

pub returns-in_err-remove-clause-err : goal.returns-in_err-remove-clause-err
returns-in_err-remove-clause-err c =
    fails_kept c.args.self.now
    (record { held = c.remove.new.self; cursors = c.clear.new.self; near = c.args.self.now.near }) c.from_residual.result c.in_err-remove.ensures.err

pub returns-clause-ok : goal.returns-clause-ok
returns-clause-ok c _ =
    let s = c.args.self.now in
    let new : Memory = record { held = c.remove.new.self; cursors = c.clear.new.self; near = c.args.self.now.near } in
    written s new c.args.index (remove_entry (order_of ((memory_view s).shape c.args.index)) c.args.entry.now) (omega arith)
    (subst (λ o. Writes s.held new.held c.args.index (remove_entry o c.args.entry.now (rows_of (current s) c.args.index))) (c.order-order.ensures ∙ ap order_of c.shape.ensures) c.in_ok-remove.ensures.ok)

pub returns-clause-frame : goal.returns-clause-frame
returns-clause-frame c clean =
    sets_frame c.args.self.now (record { held = c.remove.new.self; cursors = c.clear.new.self; near = c.args.self.now.near }) c.args.index _
    (returns-clause-ok c clean)
