-- SPDX-License-Identifier: Apache-2.0
use Rattle.mmemory.proofs.MemoryLaws.{true, refl, ap, arith, no_doubt, Memory, joined, plain, nest, after_error, keeps_untouched, created, seen_same, fails}
use Rattle.mmemory.proofs.alter.MemoryAlter.create.Goals as goal

pub returns-in_err-new-clause-err : goal.returns-in_err-new-clause-err
returns-in_err-new-clause-err c =
    let s = c.args.self.now in
    let new : Memory = record { held = s.held; cursors = c.clear.new.self; near = c.args.self.now.near } in
    fails s new c.from_residual.result (after_error _ (seen_same s.held s.held (keeps_untouched s.held s.held refl refl refl refl)))

pub returns-in_err-replace-clause-err : goal.returns-in_err-replace-clause-err
returns-in_err-replace-clause-err c =
    let new : Memory = record { held = c.replace.new.self; cursors = c.clear.new.self; near = c.args.self.now.near } in
    fails c.args.self.now new c.from_residual-in_err-replace.result (after_error _ c.in_err-replace.ensures.err)

pub returns-clause-ok : goal.returns-clause-ok
returns-clause-ok c _ =
    let new : Memory = record { held = c.replace.new.self; cursors = c.clear.new.self; near = c.args.self.now.near } in
    let made = c.in_ok-new.ensures in
    created c.args.self.now new c.args.tree (plain c.in_ok-new.new) (omega arith) c.in_ok-replace.ensures.ok c.args.object.now made.heading (c.requires (no_doubt true refl)).shaped
    (ap (λ chunks. joined (nest chunks)) made.rows)
