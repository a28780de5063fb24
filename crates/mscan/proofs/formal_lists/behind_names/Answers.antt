-- SPDX-License-Identifier: Apache-2.0
use Rattle.std.proofs.Common.{◌≡◌, length, Some, None, sym, ◌∙◌}
use Rattle.mgrammar.specs.ReadingWords.{name_at, past}
use Rattle.mscan.proofs.ListedNames.{one_passed, no_comma, no_name, all_passed}
use Rattle.mscan.proofs.formal_lists.behind_names.Goals as goal
use Rattle.mscan.proofs.formal_lists.behind_names.Goals.{else-loop-test, then-loop-test+in_default}

pub returns-in_default-name_bytes : goal.returns-in_default-name_bytes
returns-in_default-name_bytes c =
    let inside : past 44 c.loop.rest.now ≡ Some c.in-Some.behind.now = sym (rw c.in-Some.is at c.past.ensures) in
    let none : name_at c.in-Some.behind.now ≡ None = sym (rw c.in_default-name_bytes.is at c.name_bytes.ensures.name) in
    sym (no_name (length c.args.bytes.now) c.loop.counter c.loop.rest.now c.in-Some.behind.now c.loop-test.true inside none) ∙ c.loop.invariant

pub loop-preserved : goal.loop-preserved
loop-preserved c =
    let name = c.in-Some-name_bytes.field-0-0.now in
    let after = c.in-Some-name_bytes.after.now in
    let inside : past 44 c.loop.rest.now ≡ Some c.in-Some.behind.now = sym (rw c.in-Some.is at c.past.ensures) in
    let named : name_at c.in-Some.behind.now ≡ Some (name, after) = sym (rw c.in-Some-name_bytes.is at c.name_bytes.ensures.name) in
    sym (one_passed (length c.args.bytes.now) c.loop.counter c.loop.rest.now c.in-Some.behind.now name after c.loop-test.true inside named) ∙ c.loop.invariant

pub returns : goal.returns
returns c =
    let count = length c.args.bytes.now in
    elim c.loop-test.branch [
      | else-loop-test w ↦ sym (all_passed count c.loop.counter c.loop.rest.now w.loop-test.false) ∙ c.loop.invariant
      | then-loop-test+in_default w ↦
          let none : past 44 c.loop.rest.now ≡ None = sym (rw w.in_default.is at w.past.ensures) in
          sym (no_comma count c.loop.counter c.loop.rest.now w.loop-test.true none) ∙ c.loop.invariant
    ]
