-- SPDX-License-Identifier: Apache-2.0
use Rattle.mmemory.proofs.MemoryLaws.{◌≡◌, ◌++◌, ◌∷◌, [], length, map, refl, ap, ◌∙◌, arith, map-append, undone, shown, moment, memory_view, current, drop_past}
use Rattle.mmemory.proofs.memory.MemoryStore.savepoint.Goals as goal

pub returns-clause-ok : goal.returns-clause-ok
returns-clause-ok c _ =
    let s = c.args.self.now in
    let h = s.held in
    let len = c.len-len.result in
    let count : len ≡ length h.log.items = omega (arith, c.len-len.ensures, h.log.ok.0) in
    let newest : shown (moment h len) ≡ shown (current s) = ap (λ l. shown (undone l (current s))) (drop_past len h.log.items (omega (arith, count))) in
    let marks : map (λ m. shown (moment h m)) c.push.new.self.items ≡ (memory_view s).marks ++ shown (current s) ∷ [] =
    ap (map (λ m. shown (moment h m))) c.in_ok-push.ensures.items ∙ map-append (λ m. shown (moment h m)) h.marks.items (len ∷ []) ∙ ap (λ m. (memory_view s).marks ++ m ∷ []) newest in
    record { sound = refl; is = λ i. record (memory_view s) { marks = marks i } }
