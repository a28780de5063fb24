-- SPDX-License-Identifier: Apache-2.0
use Rattle.mstore.proofs.Words.{Bool, true, false, if◌then◌else◌, None, Some, ap, sym, ◌∙◌}
use Rattle.mstore.specs.Stretch.{shown_key}
use Rattle.mstore.proofs.stretch.key_before.Goals as goal

pub returns-then-not-is_before : goal.returns-then-not-is_before
returns-then-not-is_before c =
    let test = rw c.column_of-key.ensures at (sym c.is_before.ensures ∙ c.if-not-is_before.true) in
    sym (ap (λ (b : Bool). if b then Some (shown_key c.args.row.now) else None) test)

pub returns : goal.returns
returns c =
    let test = rw c.column_of-key.ensures at (sym c.is_before.ensures ∙ c.if-not-is_before.false) in
    ap Some (c.in_ok-bytes.ensures ∙ c.column_of-key.ensures) ∙ sym (ap (λ (b : Bool). if b then Some (shown_key c.args.row.now) else None) test)
