-- SPDX-License-Identifier: Apache-2.0
use Rattle.mlock.proofs.LockWords.{Some, None, cond, ap, sym, refl, subst, ◌∙◌, unwrap_or, IsSome, name_eq, no_names, tally_at}
use Rattle.mlock.proofs.Levels.{written, taken_off, twice_written, none_is}
use Rattle.mlock.proofs.below.take_off.Goals as goal

pub returns-then-is_none : goal.returns-then-is_none
returns-then-is_none c =
    let m = c.args.below.now in
    let n = c.swap_remove.new.self in
    let k = c.args.name.now in
    let v = c.in-Some.tally.now in
    let l = c.get_mut.follows.lender v in
    taken_off m n k c.args.terminal c.without_one-rest.result (c.without_one-rest.ensures ∙ ap (λ o. unwrap_or o no_names) c.in-Some.ensures.value) (λ q.
    twice_written m l n k v no_names (written m l k (Some v) ((c.get_mut.follows.holds v).3 (subst IsSome c.in-Some.ensures.value refl))) (written l n k None c.swap_remove.ensures.updates) q
    ∙ ap (λ a. cond (name_eq k q) a (tally_at m q)) (sym (none_is c.without_one-rest.result (sym c.is_none.ensures ∙ c.if-is_none.true))))

pub returns-else-is_none : goal.returns-else-is_none
returns-else-is_none c =
    let rest = c.without_one-rest.result in
    taken_off c.args.below.now (c.get_mut.follows.lender rest) c.args.name.now c.args.terminal rest (c.without_one-rest.ensures ∙ ap (λ o. unwrap_or o no_names) c.in-Some.ensures.value)
    (written c.args.below.now (c.get_mut.follows.lender rest) c.args.name.now (Some rest) ((c.get_mut.follows.holds rest).3 (subst IsSome c.in-Some.ensures.value refl)))
