-- SPDX-License-Identifier: Apache-2.0
use Rattle.meval.proofs.EvalLaws.{refl, ◌∙◌, Node, LockName, is_free, not_free, lock_refused, lock_told, same_lock}
use Rattle.mmeaning.proofs.Yieldings.{yields_wanting}
use Rattle.moperator.specs.declared.code.Code.TheVariants.{Zmem}
use Rattle.meval.specs.Acts.{lock_of}
use Rattle.meval.proofs.lock_names.lockable_at.Goals as goal

pub returns-in_err-values : goal.returns-in_err-values
returns-in_err-values c = yields_wanting (lock_of c.args.global c.args.node.now) (λ (name : LockName). name) Zmem _ refl c.from_residual.ensures

pub returns-in_default : goal.returns-in_default
returns-in_default c = lock_refused c.args.global c.args.node.now (not_free _ _ c.in_default.is (rw c.in_ok-values.ensures at c.new.ensures.when))

pub returns-in_err-name : goal.returns-in_err-name
returns-in_err-name c = yields_wanting (lock_of c.args.global c.args.node.now) (λ (name : LockName). name) Zmem _ refl c.from_residual-in_err-name.ensures

pub returns : goal.returns
returns c =
    let n : Node = c.args.node.now in
    let are = is_free _ _ c.in-Some.is (rw c.in_ok-values.ensures at c.new.ensures.when) in
    let xs = rw c.in_ok-values.ensures at c.in-Some.ensures.subscripts in
    let same = same_lock c.args.global n _ _ _ (c.of_name-account.ensures ∙ c.account.ensures) (c.in_ok-name.ensures ∙ c.name.ensures) xs in
    lock_told c.args.global n _ are same
