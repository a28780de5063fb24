-- SPDX-License-Identifier: Apache-2.0
use Rattle.std.proofs.Common.{◌∙◌, ◌+◌, ◌++◌, ◌∷◌, [], drop, refl, sym, ap}
use Rattle.std.proofs.lemmas.List.{append_assoc, append-nil}
use Rattle.mspec.proofs.ListPlaces.{next_item, none_left}
use Rattle.meval.proofs.EvalLaws.{LockName, give}
use Rattle.moperator.specs.declared.code.Code.TheVariants.{Zmem}
use Rattle.mmeaning.proofs.Yieldings.{yields_gives, yields_stopped, yields_wanting}
use Rattle.meval.proofs.kept.locks_of.Goals as goal

pub returns-in_err-names-clause-does : goal.returns-in_err-names-clause-does
returns-in_err-names-clause-does c = yields_wanting _ _ Zmem _ refl c.from_residual.ensures

-- a name's own failure is that of all of them
pub returns-in_err-name-clause-does : goal.returns-in_err-name-clause-does
returns-in_err-name-clause-does c =
    yields_stopped (λ (_ : LockName). give c.args.all.now) c.in_err-name.ensures.does c.from_residual-in_err-name.ensures

pub loop-lockable-init : goal.loop-lockable-init
loop-lockable-init c = rw c.in_ok-names.ensures.items refl

pub loop-lockable-preserved : goal.loop-lockable-preserved
loop-lockable-preserved c =
    let all = c.args.all.now in
    let k = c.loop-lockable.lockable-index in
    let x = c.lockable-item.result in
    rw (c.in_ok-push.ensures.items, c.in_ok-name.ensures.name)
    (append_assoc c.loop-lockable.names.items (x ∷ []) (drop (k + 1) all)
    ∙ ap (λ rest. c.loop-lockable.names.items ++ rest) (sym (next_item all k x c.loop-lockable-test.true c.lockable-item.is))
    ∙ c.loop-lockable.invariant)

pub returns-clause-names : goal.returns-clause-names
returns-clause-names c =
    let all = rw (none_left c.loop-lockable.lockable-index c.args.all.now c.loop-lockable-test.false) at c.loop-lockable.invariant in
    sym (append-nil c.loop-lockable.names.items) ∙ all

pub returns-clause-does : goal.returns-clause-does
returns-clause-does c =
    let all = rw (none_left c.loop-lockable.lockable-index c.args.all.now c.loop-lockable-test.false) at c.loop-lockable.invariant in
    yields_gives c.args.all.now _ c.loop-lockable.names (sym (append-nil c.loop-lockable.names.items) ∙ all)
