-- SPDX-License-Identifier: Apache-2.0
use Rattle.mmemory.proofs.MemoryLaws.{true, refl, ◌∙◌, arith, put_row, no_doubt, written, sets_frame, fails_kept, shape_is, table_within}
use Rattle.mmemory.proofs.memory.MemoryStore.put.Goals as goal

pub put-requires-clause-tree : goal.put-requires-clause-tree
put-requires-clause-tree c = table_within c.args.self.now c.args.table (omega arith) (c.requires.table (no_doubt true refl))

pub put-requires-clause-table : goal.put-requires-clause-table
put-requires-clause-table c = shape_is c.args.self.now c.args.table (omega arith) ∙ c.requires.table (no_doubt true refl)

pub put-requires-clause-keyed : goal.put-requires-clause-keyed
put-requires-clause-keyed c = c.requires.keyed (no_doubt true refl)

pub returns-in_err-put-clause-err : goal.returns-in_err-put-clause-err
returns-in_err-put-clause-err c =
    fails_kept c.args.self.now
    (record { held = c.put.new.self; cursors = c.clear.new.self; near = c.args.self.now.near }) c.from_residual.result c.in_err-put.ensures.err

pub returns-clause-ok : goal.returns-clause-ok
returns-clause-ok c _ =
    written c.args.self.now (record { held = c.put.new.self; cursors = c.clear.new.self; near = c.args.self.now.near }) c.args.table (put_row c.args.row.now) (omega arith) c.in_ok-put.ensures.ok

pub returns-clause-frame : goal.returns-clause-frame
returns-clause-frame c clean =
    sets_frame c.args.self.now (record { held = c.put.new.self; cursors = c.clear.new.self; near = c.args.self.now.near }) c.args.table _
    (returns-clause-ok c clean)
