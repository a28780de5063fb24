-- SPDX-License-Identifier: Apache-2.0
use Rattle.mlock.proofs.LockWords.{◌<◌, ◌^◌, cond, ap, sym, subst, refl, ◌∙◌, arith, get, insert_entry-new, held, one_more, Holding, locks_of, name_eq}
use Rattle.mlock.proofs.LockWords.{is_under, with_one, tally_at}
use Rattle.mlock.proofs.Moves.{room_of, kept_held, held_locks}
use Rattle.mlock.proofs.holdings.hold.Goals as goal

pub add_above-requires-clause-room : goal.add_above-requires-clause-room
add_above-requires-clause-room c n is =
    room_of c.args.holdings.now c.args.below.now c.make_room_above.new.below c.requires.kept
    (subst (λ x. x < 2 ^ 63) c.len-len.ensures.len c.len-len.ensures.small) c.make_room_above.ensures.same n

pub returns-clause-kept : goal.returns-clause-kept
returns-clause-kept c =
    let w : Holding = record { terminal = c.args.terminal; count = 1 } in
    let walk = c.in_ok-walk.ensures.name ∙ sym c.in_ok-key.ensures.name in
    kept_held c.args.holdings.now c.insert.new.self c.args.below.now c.make_room_above.new.below c.add_above.new.below c.in_ok-key.key w c.requires.kept (omega (arith, c.ranges.terminal.fits))
    (c.in_ok-insert.ensures.entries ∙ insert_entry-new name_eq c.args.holdings.now c.in_ok-key.key w (ap (get name_eq c.args.holdings.now) c.in_ok-key.ensures.name ∙ c.requires.free))
    c.in_ok-insert.ensures.unique c.make_room_above.ensures.same
    (λ n. c.add_above.ensures n ∙ ap (λ m. cond (is_under n m) (with_one c.args.terminal (tally_at c.make_room_above.new.below n)) (tally_at c.make_room_above.new.below n)) walk)

pub returns-clause-held : goal.returns-clause-held
returns-clause-held c =
    held_locks c.args.holdings.now c.insert.new.self c.in_ok-key.key (record { terminal = c.args.terminal; count = 1 }) c.requires.kept.unique c.in_ok-insert.ensures.unique
    (ap (get name_eq c.args.holdings.now) c.in_ok-key.ensures.name ∙ c.requires.free) refl c.in_ok-insert.ensures.updates
    ∙ ap (λ n. one_more (locks_of c.args.holdings.now) (held c.args.terminal n)) c.in_ok-key.ensures.name
