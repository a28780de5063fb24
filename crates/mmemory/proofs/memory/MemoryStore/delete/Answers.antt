-- SPDX-License-Identifier: Apache-2.0
use Rattle.mmemory.proofs.MemoryLaws.{true, refl, ◌∙◌, arith, to_z-of_z, without_rowid, no_doubt, written, sets_frame, fails_kept, shape_is, table_within}
use Rattle.mmemory.proofs.memory.MemoryStore.delete.Goals as goal

pub delete-requires-clause-tree : goal.delete-requires-clause-tree
delete-requires-clause-tree c = table_within c.args.self.now c.args.table (omega arith) (c.requires (no_doubt true refl))

pub delete-requires-clause-table : goal.delete-requires-clause-table
delete-requires-clause-table c = shape_is c.args.self.now c.args.table (omega arith) ∙ c.requires (no_doubt true refl)

pub returns-in_err-delete-clause-err : goal.returns-in_err-delete-clause-err
returns-in_err-delete-clause-err c =
    fails_kept c.args.self.now
    (record { held = c.delete.new.self; cursors = c.clear.new.self; near = c.args.self.now.near }) c.from_residual.result c.in_err-delete.ensures.err

pub returns-clause-ok : goal.returns-clause-ok
returns-clause-ok c _ =
    let fits = c.ranges.id in
    written c.args.self.now (record { held = c.delete.new.self; cursors = c.clear.new.self; near = c.args.self.now.near }) c.args.table (without_rowid c.args.id) (omega arith) (simp to_z-of_z at c.in_ok-delete.ensures.ok)

pub returns-clause-frame : goal.returns-clause-frame
returns-clause-frame c clean =
    sets_frame c.args.self.now (record { held = c.delete.new.self; cursors = c.clear.new.self; near = c.args.self.now.near }) c.args.table _
    (returns-clause-ok c clean)
