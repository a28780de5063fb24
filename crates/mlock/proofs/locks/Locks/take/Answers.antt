-- SPDX-License-Identifier: Apache-2.0
use Rattle.mlock.proofs.LockWords.{◌≡◌, false, Some, None, cond, All, ap, sym, subst, IfOk, take_all, list_any_none, held, has_conflict, counted, taken}
use Rattle.mlock.proofs.Conflicts.{free_of}
use Rattle.mlock.proofs.locks.Locks.take.Goals as goal

pub count_all-requires : goal.count_all-requires
count_all-requires c =
    let none = subst (All (λ n. has_conflict c.args.self.now (held c.args.terminal n) ≡ false)) (take_all c.loop-name.name-index c.args.names.now c.loop-name-test.false) c.loop-name.invariant in
    λ k d inside. free_of c.args.self.now c.args.terminal _ (none k d inside)

pub returns-clause-taken : goal.returns-clause-taken
returns-clause-taken c =
    let l = c.args.self.now in
    let t = c.args.terminal in
    let names = c.args.names.now in
    let none = subst (All (λ n. has_conflict l (held t n) ≡ false)) (take_all c.loop-name.name-index names c.loop-name-test.false) c.loop-name.invariant in
    let same : counted l t names ≡ taken l t names = sym (ap (λ b. cond b None (counted l t names)) (list_any_none (λ n. has_conflict l (held t n)) names none)) in
    subst (λ x. IfOk c.count_all.result (λ all. x ≡ cond all (Some c.count_all.new.self) None)) same c.count_all.ensures.counted
