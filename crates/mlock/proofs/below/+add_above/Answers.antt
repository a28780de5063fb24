-- SPDX-License-Identifier: Apache-2.0
use Rattle.mlock.proofs.LockWords.{cond, ap, sym, subst, ◌∙◌, arith, with_one, tally_at, HasRoom, HasEntry}
use Rattle.mlock.proofs.Levels.{all_counted, levels_left, not_next}
use Rattle.mlock.proofs.Under.{above_is, none_above, one_more}
use Rattle.mlock.proofs.below.+add_above.Goals as goal

pub add-requires : goal.add-requires
add-requires t c =
    let is = above_is c.in-Some.above c.args.name c.in-Some.ensures in
    record { made = c.requires.made c.in-Some.above is; room = c.requires.room c.in-Some.above is }

pub add_above-requires : goal.add_above-requires
add_above-requires t c =
    let above = c.in-Some.above in
    let below = c.args.name in
    let next = c.in-Some.ensures in (
      omega (arith, c.decreases, one_more above below next),
      (
        λ n is. c.add.ensures.keeps n (levels_left above below next (HasEntry c.args.below.now) c.requires.made n is),
        λ n is.
            subst HasRoom
            (sym (c.add.ensures.counted n ∙ ap (λ b. cond b (with_one c.args.terminal (tally_at c.args.below.now n)) (tally_at c.args.below.now n)) (not_next above below next n is)))
            (levels_left above below next (λ k. HasRoom (tally_at c.args.below.now k)) c.requires.room n is),
      ),
    )

pub returns-in_default : goal.returns-in_default
returns-in_default t c n = sym (ap (λ b. cond b (with_one c.args.terminal (tally_at c.args.below.now n)) (tally_at c.args.below.now n)) (none_above n c.args.name c.in_default.ensures))

pub returns : goal.returns
returns t c =
    all_counted c.in-Some.above c.args.name c.in-Some.ensures (with_one c.args.terminal) (tally_at c.args.below.now) (tally_at c.add.new.below) (tally_at c.add_above.new.below)
    c.add.ensures.counted c.add_above.ensures
