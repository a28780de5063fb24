-- SPDX-License-Identifier: Apache-2.0
use Rattle.mlock.proofs.LockWords.{Result, Ok, Err, OnOk, HasEntry}
use Rattle.mlock.proofs.Levels.{level_has}

on_ok : {T E P Q : Type 0} (r : Result T E) → (P → Q) → OnOk r P → OnOk r Q
on_ok (Ok x) f h = f h
on_ok (Err e) f h = h

pub returns-clause-made : Rattle.mlock.proofs.below.+make_room_above.Goals.returns-clause-made
returns-clause-made t c =
    on_ok c.make_room_above.result
    (level_has c.in-Some.above c.args.name c.in-Some.ensures (HasEntry c.make_room_above.new.below) (c.make_room_above.ensures.keeps c.in-Some.above c.in_ok-make_room.ensures.made))
    c.make_room_above.ensures.made
