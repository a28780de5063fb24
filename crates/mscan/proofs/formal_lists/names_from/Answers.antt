-- SPDX-License-Identifier: Apache-2.0
use Rattle.std.proofs.Common.{◌≡◌, ◌-◌, ◌+◌, List, ℕ, [], ◌∷◌, ◌++◌, length, Some, None, sym, ap, ◌∙◌}
use Rattle.std.proofs.lemmas.List.{append-nil, append_assoc}
use Rattle.mscan.specs.Formals.{next_name, names_after}
use Rattle.mscan.proofs.ListedNames.{met, none_met, all_met}
use Rattle.mscan.proofs.formal_lists.names_from.Goals as goal
use Rattle.mscan.proofs.formal_lists.names_from.Goals.{else-loop-test, then-loop-test+in_default}

pub loop-preserved : goal.loop-preserved
loop-preserved c =
    let name = c.in-Some.next.now in
    let after = c.in-Some.after.now in
    let count = length c.args.bytes.now in
    let next : next_name c.loop.rest.now ≡ Some (name, after) = sym (rw c.in-Some.is at c.next_name.ensures.name) in
    let later : List (List ℕ) = names_after (count - (c.loop.counter + 1)) after in
    let pushed : c.push-in-loop.new.self.items ≡ c.loop.all.items ++ name ∷ [] = rw c.in_ok-from_slice-2.ensures at c.in_ok-push-2.ensures.items in
    let here : names_after (count - c.loop.counter) c.loop.rest.now ≡ name ∷ later = met count c.loop.counter c.loop.rest.now name after c.loop-test.true next in
    ap (λ (names : List (List ℕ)). names ++ later) pushed ∙ append_assoc c.loop.all.items (name ∷ []) later ∙ sym (ap (λ (names : List (List ℕ)). c.loop.all.items ++ names) here) ∙ c.loop.invariant

pub returns : goal.returns
returns c =
    let count = length c.args.bytes.now in
    let whole = λ (n : names_after (count - c.loop.counter) c.loop.rest.now ≡ []). sym (append-nil c.loop.all.items) ∙ sym (ap (λ (names : List (List ℕ)). c.loop.all.items ++ names) n) ∙ c.loop.invariant in
    elim c.loop-test.branch [
      | else-loop-test w ↦ whole (all_met count c.loop.counter c.loop.rest.now w.loop-test.false)
      | then-loop-test+in_default w ↦
          let none : next_name c.loop.rest.now ≡ None = sym (rw w.in_default.is at w.next_name.ensures.name) in
          whole (none_met (count - c.loop.counter) c.loop.rest.now none)
    ]
