-- SPDX-License-Identifier: Apache-2.0
use Rattle.mstore.proofs.Words.{◌-◌, ◌++◌, Bool, if◌then◌else◌, List, [], ◌∷◌, ℕ, length, slice_get, ap, sym, ◌∙◌}
use Rattle.mstore.specs.Stretch.{after_row}
use Rattle.mstore.proofs.stretch.end_of.Goals as goal

pub returns-then-are_fewer : goal.returns-then-are_fewer
returns-then-are_fewer c =
    let rows = c.args.rows.now in
    c.in_ok-all.ensures ∙ sym (ap (λ (b : Bool). if b then c.args.high.now else after_row (slice_get rows (length rows - 1))) (sym c.are_fewer.ensures ∙ c.if-are_fewer.true))

pub returns-in_default : goal.returns-in_default
returns-in_default c =
    let rows = c.args.rows.now in
    let none = rw c.in_default.is at c.last_of.ensures in
    c.new.ensures.items ∙ ap after_row none
    ∙ sym (ap (λ (b : Bool). if b then c.args.high.now else after_row (slice_get rows (length rows - 1))) (sym c.are_fewer.ensures ∙ c.if-are_fewer.false))

pub returns : goal.returns
returns c =
    let rows = c.args.rows.now in
    let some = rw c.in-Some.is at c.last_of.ensures in
    c.in_ok-push.ensures.items ∙ ap (λ (l : List ℕ). l ++ 0 ∷ []) (c.in_ok-end.ensures ∙ c.column_of.ensures) ∙ ap after_row some
    ∙ sym (ap (λ (b : Bool). if b then c.args.high.now else after_row (slice_get rows (length rows - 1))) (sym c.are_fewer.ensures ∙ c.if-are_fewer.false))
