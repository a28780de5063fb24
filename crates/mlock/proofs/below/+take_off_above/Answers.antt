-- SPDX-License-Identifier: Apache-2.0
use Rattle.mlock.proofs.LockWords.{◌≡◌, cond, ap, sym, subst, ◌∙◌, arith, Tally, with_one, tally_at}
use Rattle.mlock.proofs.Levels.{all_taken_off, levels_left, not_next}
use Rattle.mlock.proofs.Under.{above_is, none_above, one_more}
use Rattle.mlock.proofs.below.+take_off_above.Goals as goal

pub take_off-requires : goal.take_off-requires
take_off-requires t c = c.requires c.in-Some.above (above_is c.in-Some.above c.args.name c.in-Some.ensures)

pub take_off_above-requires : goal.take_off_above-requires
take_off_above-requires t c =
    let next = c.in-Some.ensures in (
      omega (arith, c.decreases, one_more c.in-Some.above c.args.name next),
      λ n is.
          subst (λ a. (rest : Tally) × (with_one c.args.terminal rest ≡ a))
          (c.take_off.ensures n ∙ ap (λ b. cond b (with_one c.args.terminal (tally_at c.take_off.new.below n)) (tally_at c.take_off.new.below n)) (not_next c.in-Some.above c.args.name next n is))
          (levels_left c.in-Some.above c.args.name next (λ k. (rest : Tally) × (with_one c.args.terminal rest ≡ tally_at c.args.below.now k)) c.requires n is),
    )

pub returns-in_default : goal.returns-in_default
returns-in_default t c n = sym (ap (λ b. cond b (with_one c.args.terminal (tally_at c.args.below.now n)) (tally_at c.args.below.now n)) (none_above n c.args.name c.in_default.ensures))

pub returns : goal.returns
returns t c =
    all_taken_off c.in-Some.above c.args.name c.in-Some.ensures (with_one c.args.terminal) (tally_at c.args.below.now) (tally_at c.take_off.new.below) (tally_at c.take_off_above.new.below)
    c.take_off.ensures c.take_off_above.ensures
