-- SPDX-License-Identifier: Apache-2.0
use Rattle.mmemory.proofs.MemoryWords.{◌≡◌, ◌<◌, length, get_or, None, Some, arith, common_steps, cursor_within, cursor_set, memory_view, current, left_of}
use Rattle.mmemory.proofs.memory.MemoryStore.next.Goals as goal

pub returns-in-Some-clause-ok : goal.returns-in-Some-clause-ok
returns-in-Some-clause-ok c _ =
    let steps = rw c.in-Some.is at c.in_ok-moved.ensures in
    let s = c.args.self.now in
    let within : c.args.cursor < length s.cursors.items = cursor_within (left_of (current s)) _ _ c.requires in
    let held : get_or s.cursors.items c.args.cursor None ≡ Some c.unwrap.result = grind (arith, common_steps) in
    let moved = cursor_set (left_of (current s)) s.cursors.items c.args.cursor c.in-Some.moved within in
    (left_of (current s) c.in-Some.moved, rw (held, steps), rw c.from-at.ensures (λ i. record (memory_view s) { cursors = λ k. moved k i }))
