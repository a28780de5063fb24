-- SPDX-License-Identifier: Apache-2.0
use Rattle.mstore.proofs.Words.{sym, ◌∙◌}
use Rattle.mstore.proofs.Within.{none_told, row_told}
use Rattle.mstore.proofs.stretch.Stretch.first.Goals as goal

pub returns-in_default : goal.returns-in_default
returns-in_default c m agree =
    let begins = rw c.as_slice-begin.ensures.value at (sym c.is_before.ensures ∙ c.if-is_before.false) in
    let place = rw c.as_slice-rows.ensures.value at c.place_of-place.ensures.place in
    let none = rw (c.in_default.is, c.as_slice-rows.ensures.value) at c.row_at.ensures in
    none_told m c.args.self.now agree c.args.low.now c.args.high.now c.place_of-place.result begins (place agree.in_order) (sym none) c.none_before.result c.none_before.ensures

pub returns : goal.returns
returns c m agree =
    let begins = rw c.as_slice-begin.ensures.value at (sym c.is_before.ensures ∙ c.if-is_before.false) in
    let place = rw c.as_slice-rows.ensures.value at c.place_of-place.ensures.place in
    let some = rw (c.in-Some.is, c.as_slice-rows.ensures.value) at c.row_at.ensures in
    row_told m c.args.self.now agree c.args.low.now c.args.high.now c.place_of-place.result begins (place agree.in_order) c.in-Some.row.now (sym some) _ c.in_ok-key.ensures
