-- SPDX-License-Identifier: Apache-2.0
use Rattle.mcommand.proofs.CommandLaws.{sym, ◌∙◌, kind_tree, does_then, does_stopped, does_yielded}
use Rattle.mmeaning.specs.Locking as meaning
use Rattle.mcommand.proofs.parts.Parts.carry_kept.Goals as goal

pub returns-in_err-names : goal.returns-in_err-names
returns-in_err-names g c = does_stopped (λ i ns. meaning.carried (kind_tree c.args.kind) ns) (does_yielded c.in_err-names.ensures.does) c.from_residual.ensures

pub carry-requires : goal.carry-requires
carry-requires g c =
    rw (c.deref.ensures.value, c.in_ok-names.ensures.names) (sym c.may_lock_all.ensures ∙ c.if-may_lock_all.true)

pub carry_none-requires : goal.carry_none-requires
carry_none-requires g c =
    rw (c.deref-else-may_lock_all.ensures.value, c.in_ok-names.ensures.names) (sym c.may_lock_all.ensures ∙ c.if-may_lock_all.false)

pub returns-then-may_lock_all : goal.returns-then-may_lock_all
returns-then-may_lock_all g c =
    let does = rw c.deref.ensures.value at c.carry.ensures.does in
    does_then (λ i ns. meaning.carried (kind_tree c.args.kind) ns) (does_yielded c.in_ok-names.ensures.does) does

pub returns : goal.returns
returns g c =
    let does = rw c.deref-else-may_lock_all.ensures.value at c.carry_none.ensures.does in
    does_then (λ i ns. meaning.carried (kind_tree c.args.kind) ns) (does_yielded c.in_ok-names.ensures.does) does
