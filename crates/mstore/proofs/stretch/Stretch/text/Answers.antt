-- SPDX-License-Identifier: Apache-2.0
use Rattle.mstore.proofs.Words.{true, false, sym, ap, ◌∙◌, rules}
use Rattle.mstore.proofs.Within.{no_text, no_text_at, text_at}
use Rattle.mstore.proofs.stretch.Stretch.text.Goals as goal

pub returns-in_default-clause-found : goal.returns-in_default-clause-found
returns-in_default-clause-found c m agree =
    let s = c.args.self.now in
    let within = sym c.holds.ensures ∙ c.if-not-holds.false in
    let place = rw c.as_slice-rows.ensures.value at c.place_of-place.ensures.place in
    let none = rw (c.in_default.is, c.as_slice-rows.ensures.value) at c.row_at.ensures in
    no_text m s.low.items s.high.items s.rows.items agree c.args.key.now c.place_of-place.result within (place agree.in_order) (sym none)

pub returns-then-not-has_key-clause-found : goal.returns-then-not-has_key-clause-found
returns-then-not-has_key-clause-found c m agree =
    let s = c.args.self.now in
    let within = sym c.holds.ensures ∙ c.if-not-holds.false in
    let place = rw c.as_slice-rows.ensures.value at c.place_of-place.ensures.place in
    let some = rw (c.in-Some.is, c.as_slice-rows.ensures.value) at c.row_at.ensures in
    no_text_at m s.low.items s.high.items s.rows.items agree c.args.key.now c.place_of-place.result within (place agree.in_order) c.in-Some.row.now (sym some) (sym c.has_key.ensures ∙ c.if-not-has_key.true)

pub returns-clause-found : goal.returns-clause-found
returns-clause-found c m agree =
    let s = c.args.self.now in
    let within = sym c.holds.ensures ∙ c.if-not-holds.false in
    let place = rw c.as_slice-rows.ensures.value at c.place_of-place.ensures.place in
    let some = rw (c.in-Some.is, c.as_slice-rows.ensures.value) at c.row_at.ensures in
    let is = text_at m s.low.items s.high.items s.rows.items agree c.args.key.now c.place_of-place.result within (place agree.in_order) c.in-Some.row.now (sym some) (sym c.has_key.ensures ∙ c.if-not-has_key.false) in
    let text = rw c.column_of.ensures at c.in_ok-text.ensures.text in
    ap Rattle.mstore.proofs.Words.Some text ∙ sym is

pub returns-in_err-text-clause-told : goal.returns-in_err-text-clause-told
returns-in_err-text-clause-told c m agree values =
    let s = c.args.self.now in
    let within = sym c.holds.ensures ∙ c.if-not-holds.false in
    let place = rw c.as_slice-rows.ensures.value at c.place_of-place.ensures.place in
    let some = rw (c.in-Some.is, c.as_slice-rows.ensures.value) at c.row_at.ensures in
    let is = text_at m s.low.items s.high.items s.rows.items agree c.args.key.now c.place_of-place.result within (place agree.in_order) c.in-Some.row.now (sym some) (sym c.has_key.ensures ∙ c.if-not-has_key.false) in
    let told = rw c.column_of.ensures at c.text_of.ensures.told in
    let refused = told (values _ _ is) in
    search rules
