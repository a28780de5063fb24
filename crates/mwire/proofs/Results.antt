-- SPDX-License-Identifier: Apache-2.0
-- What a clause on a success says of a result that is known.
use Rattle.mwire.proofs.WireWords.{arith, ◌≡◌, true, false, Ok, Err, Result, OnOk, IsErr, is_ok, is_err}

pub on_ok_unless : {T E : Type 0} (r : Result T E) (P : Type 0) → OnOk r P → is_err r ≡ false → P
on_ok_unless (Ok x) P h e = h
on_ok_unless (Err x) P h e = cc

pub on_ok_then : {T E : Type 0} (r : Result T E) (P Q : Type 0) → OnOk r P → (P → Q) → OnOk r Q
on_ok_then r P Q h e = grind arith

pub not_ok : {T E P : Type 0} (r : Result T E) → IsErr r → is_ok r ≡ true → P
not_ok (Ok x) h e = cc
not_ok (Err x) h e = cc
