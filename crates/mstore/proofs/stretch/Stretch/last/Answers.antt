-- SPDX-License-Identifier: Apache-2.0
use Rattle.mstore.proofs.Words.{sym, ◌∙◌}
use Rattle.mstore.proofs.Within.{last_told, none_told_last, out_told}
use Rattle.mstore.proofs.stretch.Stretch.last.Goals as goal

pub returns-in_default : goal.returns-in_default
returns-in_default c m agree =
    let ends = rw c.as_slice-end.ensures.value at (sym c.is_before.ensures ∙ c.if-is_before.false) in
    let place = rw c.as_slice-rows.ensures.value at c.place_of-place.ensures.place in
    let bound = rw c.as_slice-rows.ensures.value at c.place_of-place.ensures.bound in
    let none = rw (c.in_default.is, c.as_slice-rows.ensures.value) at c.row_before.ensures in
    none_told_last m c.args.self.now agree c.args.low.now c.args.high.now c.place_of-place.result ends (place agree.in_order) bound (sym none) c.none_from.result c.none_from.ensures

pub returns-then-begins_after : goal.returns-then-begins_after
returns-then-begins_after c m agree =
    let ends = rw c.as_slice-end.ensures.value at (sym c.is_before.ensures ∙ c.if-is_before.false) in
    let place = rw c.as_slice-rows.ensures.value at c.place_of-place.ensures.place in
    let some = rw (c.in-Some.is, c.as_slice-rows.ensures.value) at c.row_before.ensures in
    out_told m c.args.self.now agree c.args.low.now c.args.high.now c.place_of-place.result ends (place agree.in_order) c.in-Some.row.now (sym some)
    (sym c.begins_after.ensures ∙ c.if-begins_after.true) c.none_from-then-begins_after.result c.none_from-then-begins_after.ensures

pub returns : goal.returns
returns c m agree =
    let ends = rw c.as_slice-end.ensures.value at (sym c.is_before.ensures ∙ c.if-is_before.false) in
    let place = rw c.as_slice-rows.ensures.value at c.place_of-place.ensures.place in
    let some = rw (c.in-Some.is, c.as_slice-rows.ensures.value) at c.row_before.ensures in
    last_told m c.args.self.now agree c.args.low.now c.args.high.now c.place_of-place.result ends (place agree.in_order) c.in-Some.row.now (sym some)
    (sym c.begins_after.ensures ∙ c.if-begins_after.false) _ c.in_ok-key.ensures
