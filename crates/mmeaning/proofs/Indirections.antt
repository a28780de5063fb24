-- SPDX-License-Identifier: Apache-2.0
-- A call that ends in a code of the line's own.
use Rattle.mmeaning.proofs.MeaningWords.{◌≡◌, Err, refl, arith, Fault, Own, fail, Standing, Here, Did}

-- a code of the line's own
pub did_fail : {A X E : Type 0} {b : Standing} {steady : Type 0} {fault_of : E → Fault} {h : Here} (c : _) (f : X → A) (e : E) → fault_of e ≡ Own c → Did b steady fault_of (λ n. fail c) f h (Err e) h
did_fail c f e is = record { at = λ n le. rw is refl; fewer = omega arith }
