-- SPDX-License-Identifier: Apache-2.0
use Rattle.meval.proofs.EvalLaws.{LockName, ap₂, subst, standing_of, lock_name_of, locks_global, locks_local, ◌∙◌, ◌≡◌}
use Rattle.mspec.specs.Trees.{text_eq}
use Rattle.mmeaning.specs.Shared.{may_lock}
use Rattle.meval.proofs.eval.Eval.may_lock.Goals as goal

pub returns-then-lockable : goal.returns-then-lockable
returns-then-lockable g c =
    let b = standing_of c.args.self.now in
    let may = rw (c.as_bytes-account.ensures.bytes, c.as_bytes.ensures.bytes) at c.may.ensures in
    let inside = c.lockable.inside in
    let named = lock_name_of inside.global inside.account inside.name inside.subscripts in
    subst (λ (l : LockName). c.may.result ≡ may_lock b.settings b.account l) c.lockable.view_is (locks_global b named _ c.if-lockable.true may)

pub returns : goal.returns
returns g c =
    let b = standing_of c.args.self.now in
    let own = c.eq.ensures ∙ ap₂ text_eq c.as_bytes-account.ensures.bytes c.name_of.ensures.name in
    let inside = c.lockable.inside in
    let named = lock_name_of inside.global inside.account inside.name inside.subscripts in
    subst (λ (l : LockName). c.eq.result ≡ may_lock b.settings b.account l) c.lockable.view_is (locks_local b named _ c.if-lockable.false own)
