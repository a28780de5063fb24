-- SPDX-License-Identifier: Apache-2.0
use Rattle.mmemory.proofs.MemoryLaws.{◌≡◌, None, get_or, refl, arith, order_of, sought, named, unnumbered, Memory, memory_view, current, left_of, after_error}
use Rattle.mmemory.proofs.MemoryLaws.{keeps_untouched, cursors_set, seen_same, fails}
use Rattle.mmemory.proofs.memory.MemoryStore.seek.Goals as goal

pub returns-clause-ok : goal.returns-clause-ok
returns-clause-ok c _ =
    let s = c.args.self.now in
    let t = c.args.tree in
    let left : left_of (current s) c.placed-placed.result ≡ sought (order_of ((memory_view s).shape t)) c.args.direction c.args.key.now ((memory_view s).trees t) =
    rw (unnumbered t (omega arith), named t (omega arith)) c.placed-placed.ensures in
    let cursors = cursors_set (left_of (current s)) (λ k. get_or s.cursors.items k None) (λ k. get_or c.set_cursor.new.cursors.items k None) c.args.cursor c.placed-placed.result _ left (rw c.from.ensures at c.in_ok-set_cursor.ensures) in
    λ i. record (memory_view s) { cursors = λ k. cursors k i }

pub returns-in_err-set_cursor-clause-err : goal.returns-in_err-set_cursor-clause-err
returns-in_err-set_cursor-clause-err c =
    let s = c.args.self.now in
    let new : Memory = record { held = s.held; cursors = c.set_cursor.new.cursors; near = s.near } in
    fails s new c.from_residual.result (after_error _ (seen_same s.held s.held (keeps_untouched s.held s.held refl refl refl refl)))
