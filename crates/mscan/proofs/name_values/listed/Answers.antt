-- SPDX-License-Identifier: Apache-2.0
use Rattle.std.proofs.Common.{◌≡◌, ◌∷◌, [], length, refl, rules}
use Rattle.std.proofs.lemmas.Result.{err_from_is_err_and}
use Rattle.mgrammar.specs.NameValues.{name_subscript_at}
use Rattle.mgrammar.specs.ReadingWords.{after_comma, list_at}
use Rattle.mgrammar.proofs.ReadingLoops.{is_done, list_begins, comma_goes_on, comma_stops}
use Rattle.mscan.proofs.Faults.{list_fails, comma_fails}
use Rattle.mscan.proofs.name_values.listed.Goals as goal
use Rattle.mscan.proofs.name_values.listed.Goals.{else-loop-test, then-loop-test+in_default}

pub returns-in_err-first : goal.returns-in_err-first
returns-in_err-first c =
    let p = err_from_is_err_and c.from_residual.result c.from_residual.ensures.1 in
    rw (p.1, p.2) (list_fails name_subscript_at c.in_err-first.field-0.0 c.args.bytes.now c.in_err-first.ensures)

pub loop-init : goal.loop-init
loop-init c =
    let e : c.push.new.self.items ≡ c.in_ok-first.first ∷ [] = rw (c.in_ok-push.ensures.items, c.new-all.ensures.items) refl in
    rw e (list_begins name_subscript_at c.args.bytes.now c.in_ok-first.first c.in_ok-first.start.now c.in_ok-first.ensures)

pub returns-in_err-item : goal.returns-in_err-item
returns-in_err-item c =
    let p = err_from_is_err_and c.from_residual-in_err-item.result c.from_residual-in_err-item.ensures.1 in
    let count = length c.in_ok-first.start.now in
    let total = list_at name_subscript_at c.args.bytes.now in
    rw (p.1, p.2) (comma_fails name_subscript_at c.in_err-item.field-0.0 c.loop.all.items count c.loop.counter c.loop.rest.now
    c.in-Some.behind.now total c.loop-test.true (search rules) c.in_err-item.ensures c.loop.invariant)

pub loop-preserved : goal.loop-preserved
loop-preserved c =
    let count = length c.in_ok-first.start.now in
    let total = list_at name_subscript_at c.args.bytes.now in
    rw c.in_ok-push-2.ensures.items (comma_goes_on name_subscript_at c.loop.all.items count c.loop.counter c.loop.rest.now
    c.in-Some.behind.now c.in_ok-item.item c.in_ok-item.after.now total c.loop-test.true (search rules) c.in_ok-item.ensures c.loop.invariant)

pub returns : goal.returns
returns c =
    let item = name_subscript_at in
    let all = c.loop.all.items in
    let count = length c.in_ok-first.start.now in
    let rest = c.loop.rest.now in
    let total = list_at name_subscript_at c.args.bytes.now in
    elim c.loop-test.branch [
      | else-loop-test w ↦ is_done (after_comma item) all count c.loop.counter rest total w.loop-test.false c.loop.invariant
      | then-loop-test+in_default w ↦ comma_stops item all count c.loop.counter rest total w.loop-test.true (search rules) c.loop.invariant
    ]
