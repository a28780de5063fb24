-- SPDX-License-Identifier: Apache-2.0
use Rattle.mlock.proofs.LockWords.{Some, ap, sym, subst, ◌∙◌, get, Updates, name_eq}
use Rattle.mlock.proofs.Levels.{made_same, absent_from}

pub returns-in_ok-insert-clause-same : Rattle.mlock.proofs.below.make_room.Goals.returns-in_ok-insert-clause-same
returns-in_ok-insert-clause-same c =
    let m = c.args.below.now in
    made_same m c.insert.new.self c.in_ok-key.key (subst (λ a. Updates name_eq m c.insert.new.self c.in_ok-key.key (Some a)) c.none.ensures c.in_ok-insert.ensures.updates)
    (ap (get name_eq m) c.in_ok-key.ensures.name ∙ absent_from (get name_eq m c.args.name.now) (sym c.contains_key.ensures ∙ c.if-not-contains_key.true))
