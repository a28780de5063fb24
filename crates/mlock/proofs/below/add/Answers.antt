-- SPDX-License-Identifier: Apache-2.0
use Rattle.mlock.proofs.LockWords.{Some, cond, ap, refl, subst, ◌∙◌, unwrap_or, IsSome, name_eq, no_names, with_one, tally_at}
use Rattle.mlock.proofs.Levels.{written, counted}

pub returns-in-Some-clause-counted : Rattle.mlock.proofs.below.add.Goals.returns-in-Some-clause-counted
returns-in-Some-clause-counted c =
    let n = c.get_mut.follows.lender c.with_one.result in
    counted c.args.below.now n c.args.name.now c.args.terminal (λ q.
    written c.args.below.now n c.args.name.now (Some c.with_one.result) ((c.get_mut.follows.holds c.with_one.result).3 (subst IsSome c.in-Some.ensures.value refl)) q
    ∙ ap (λ a. cond (name_eq c.args.name.now q) a (tally_at c.args.below.now q)) (c.with_one.ensures ∙ ap (with_one c.args.terminal) (ap (λ o. unwrap_or o no_names) c.in-Some.ensures.value)))
