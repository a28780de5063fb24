-- SPDX-License-Identifier: Apache-2.0
use Rattle.mcommand.proofs.CommandLaws.{refl, pending_view, does_then, does_stopped, does_failed, does_evaluated, does_yielded, does_wanting}
use Rattle.mcommand.proofs.StepItems.{item_on}
use Rattle.mcommand.proofs.Within.{going_deeper, gone_deeper, gives_deeper}
use Rattle.mgrammar.specs.Grammar.{no_exprs}
use Rattle.meval.proofs.Indirections.{evaluates_deep, not_free}
use Rattle.mcommand.proofs.parts.Parts.named_outside.Goals as goal

pub returns-in_err-given : goal.returns-in_err-given
returns-in_err-given g c = does_stopped going_deeper (does_yielded c.in_err-given.ensures) c.from_residual.ensures

pub returns-in_default : goal.returns-in_default
returns-in_default g c =
    let full = not_free _ _ c.in_default.is c.indirected.ensures.free in
    does_then going_deeper (does_yielded c.in_ok-given.ensures)
    (does_failed (gone_deeper _) {f = pending_view} (does_evaluated (evaluates_deep no_exprs _ full)))

pub returns-in_err-pending : goal.returns-in_err-pending
returns-in_err-pending g c =
    does_then going_deeper (does_yielded c.in_ok-given.ensures)
    (does_stopped (gone_deeper _) (does_evaluated c.in_err-pending.ensures) c.from_residual-in_err-pending.ensures)

pub returns-in_err-push : goal.returns-in_err-push
returns-in_err-push g c =
    does_then going_deeper (does_yielded c.in_ok-given.ensures)
    (does_then (gone_deeper _) (does_evaluated c.in_ok-pending.ensures)
    (does_wanting _ _ _ c.from_residual-in_err-push.ensures refl refl refl refl))

pub returns : goal.returns
returns g c =
    let deeper = rw c.in-Some.is at c.indirected.ensures.deeper in
    does_then going_deeper (does_yielded c.in_ok-given.ensures)
    (does_then (gone_deeper _) (does_evaluated c.in_ok-pending.ensures)
    (gives_deeper _ _ _ _ (rw (c.in_ok-push.ensures.items, item_on, deeper, c.in_ok-pending.ensures.depth) refl)))
