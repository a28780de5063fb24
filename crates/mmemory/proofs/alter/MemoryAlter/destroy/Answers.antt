-- SPDX-License-Identifier: Apache-2.0
use Rattle.mmemory.proofs.MemoryLaws.{ap, arith, Memory, plain, heading, plain_rows, after_error, destroyed, fails}
use Rattle.mmemory.proofs.alter.MemoryAlter.destroy.Goals as goal

pub returns-in_err-replace-clause-err : goal.returns-in_err-replace-clause-err
returns-in_err-replace-clause-err c =
    let new : Memory = record { held = c.replace.new.self; cursors = c.clear.new.self; near = c.args.self.now.near } in
    fails c.args.self.now new c.from_residual.result (after_error _ c.in_err-replace.ensures.err)

pub returns-clause-ok : goal.returns-clause-ok
returns-clause-ok c _ =
    let new : Memory = record { held = c.replace.new.self; cursors = c.clear.new.self; near = c.args.self.now.near } in
    let none = c.absent-absent.ensures in
    destroyed c.args.self.now new c.args.tree (plain c.absent-absent.result) (omega arith) c.in_ok-replace.ensures.ok (ap heading none) (ap plain_rows none)
