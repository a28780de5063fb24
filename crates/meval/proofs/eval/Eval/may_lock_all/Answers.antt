-- SPDX-License-Identifier: Apache-2.0
use Rattle.std.proofs.Common.{◌≡◌, ◌∙◌, ◌+◌, ◌<◌, ℕ, Bool, true, false, List, drop, length, get_or, sym, ap}
use Rattle.std.specs.Prelude.{◌&&◌}
use Rattle.std.specs.List.{list_all}
use Rattle.mspec.proofs.ListPlaces.{next_item, none_left}
use Rattle.mmeaning.specs.Shared.{may_lock}
use Rattle.meval.specs.Evaluates.{standing_of}
use Rattle.meval.proofs.eval.Eval.may_lock_all.Goals as goal

-- the items from one on, of which it is so of that one, or is not
module _ {A : Type 0} (f : A → Bool) (xs : List A) (k : ℕ) (x : A) (less : k < length xs) (is : x ≡ get_or xs k x) where
  this_one : (b : Bool) → f x ≡ b → list_all f (drop k xs) ≡ (b && list_all f (drop (k + 1) xs))
  this_one b so = ap (list_all f) (next_item xs k x less is) ∙ ap (λ b. b && list_all f (drop (k + 1) xs)) so

pub loop-lockable-preserved : goal.loop-lockable-preserved
loop-lockable-preserved g c =
    let b = standing_of c.args.self.now in
    let one =
    this_one (may_lock b.settings b.account) c.args.all.now c.loop-lockable.lockable-index c.lockable-item.result c.loop-lockable-test.true
    c.lockable-item.is true (sym c.may_lock.ensures ∙ c.if-not-may_lock.false) in
    sym one ∙ c.loop-lockable.invariant

pub returns-then-not-may_lock : goal.returns-then-not-may_lock
returns-then-not-may_lock g c =
    let b = standing_of c.args.self.now in
    let one =
    this_one (may_lock b.settings b.account) c.args.all.now c.loop-lockable.lockable-index c.lockable-item.result c.loop-lockable-test.true
    c.lockable-item.is false (sym c.may_lock.ensures ∙ c.if-not-may_lock.true) in
    sym one ∙ c.loop-lockable.invariant

pub returns : goal.returns
returns g c =
    let b = standing_of c.args.self.now in
    let all = rw (none_left c.loop-lockable.lockable-index c.args.all.now c.loop-lockable-test.false) at c.loop-lockable.invariant in
    all
