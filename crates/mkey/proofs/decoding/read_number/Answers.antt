-- SPDX-License-Identifier: Apache-2.0
use Rattle.mkey.proofs.KeyWords.{◌∷◌, sym, subst, units, units_number, subscript_bytes, IsFront}
use Rattle.mkey.proofs.TextFronts.{match_map}
use Rattle.mkey.proofs.SubscriptFronts.{no_such_number, no_number_of_more, number_begins}
use Rattle.mkey.proofs.decoding.read_number.Goals as goal

pub returns-in-None : goal.returns-in-None
returns-in-None c = no_number_of_more c.args.kept 18 c.args.bytes.now c.requires.some_kept c.requires.kept_at_most c.in-None.ensures

pub returns-in_ok-found-in-Some : goal.returns-in_ok-found-in-Some
returns-in_ok-found-in-Some c =
    let front = c.in-Some.ensures in
    match_map c.in_ok-found-in-Some.found
    (λ none. no_such_number c.args.kept c.args.bytes.now (units c.in-Some.number) front (units_number c.in-Some.number).in_range none)
    (λ part found. (
      subst (λ k. IsFront (1 ∷ c.args.bytes.now) (subscript_bytes c.args.kept part.0) k) (sym found.1) (number_begins c.args.kept c.args.bytes.now (units c.in-Some.number) part.0 front found.0),
      found.2,
    ))
    c.in_ok-found-in-Some.ensures
