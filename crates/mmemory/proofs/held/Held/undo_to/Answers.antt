-- SPDX-License-Identifier: Apache-2.0
use Rattle.mmemory.proofs.MemoryLaws.{All, ◌≡◌, ◌≤◌, ◌++◌, ◌∷◌, [], drop, length, sym, subst, ap, ◌∙◌, arith, length-append, state_of, undone, now, moment_less}
use Rattle.mmemory.proofs.MemoryLaws.{order_less}
use Rattle.mmemory.proofs.held.Held.undo_to.Goals as goal

pub invariant_of-self : goal.invariant_of-self
invariant_of-self c =
    let h = c.loop-self.self in
    let u = c.unwrap-change.result in
    let log = c.pop.new.self.items in
    let popped : h.log.items ≡ log ++ u ∷ [] = rw c.unwrap-change.ensures at c.pop.ensures.items in
    let marks = c.loop-self.invariant.marks in
    let more : c.args.len ≤ length log = omega (arith, c.loop-self-test.true, c.len.ensures, h.log.ok.0, ap length popped, length-append log (u ∷ [])) in
    let all : All (λ m. m ≤ c.args.len) h.marks.items = subst (All (λ m. m ≤ c.args.len)) (sym marks) c.requires in
    record {
      ordered = order_less log h.log.items u (now h) (state_of c.undo.new.trees.items c.undo.new.version) popped c.undo.ensures h.ordered;
      within = λ k d low. omega (arith, all k d low);
      rising = h.rising;
    }

pub loop-self-preserved : goal.loop-self-preserved
loop-self-preserved c =
    let h = c.loop-self.self in
    let was = c.loop-self.invariant in
    let u = c.unwrap-change.result in
    let log = c.pop.new.self.items in
    let popped : h.log.items ≡ log ++ u ∷ [] = rw c.unwrap-change.ensures at c.pop.ensures.items in
    let more : c.args.len ≤ length log = omega (arith, c.loop-self-test.true, c.len.ensures, h.log.ok.0, ap length popped, length-append log (u ∷ [])) in
    record {
      past = λ k low. moment_less log u (now h) (state_of c.undo.new.trees.items c.undo.new.version) c.undo.ensures k (omega (arith, low, more)) ∙ ap (λ l. undone (drop k l) (now h)) (sym popped) ∙ was.past k low;
      marks = was.marks;
      log = λ _. more;
    }
