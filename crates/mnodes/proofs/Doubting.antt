-- SPDX-License-Identifier: Apache-2.0
-- What calls in a row do to the doubt of a store.
use Rattle.mnodes.proofs.Words.{◌≡◌, ◌≤◌, ℕ, Bool, true, false, zero, suc, refl, arith}
use Rattle.mnodes.specs.Doubt.{Doubts}

-- the store was in no doubt if it is in none
pub undoubted : {sound : Type 0} {old new : ℕ} {had_room has_room is_done : Bool} → Doubts sound old new had_room has_room is_done → new ≡ 0 → old ≡ 0
undoubted d e = omega (arith, d.order, e)

-- a call that the store has no part in
pub Doubts-same : {sound : Type 0} {has_room is_done : Bool} (old : ℕ) → Doubts sound old old has_room has_room is_done
Doubts-same old = record { order = omega arith; failed = λ e f. absurd (omega (arith, e, f)); stays = λ s. omega arith; room = λ r. r }

-- the doubt between the two
failed_on : {sound : Type 0} {old new : ℕ} {first second third is_done : Bool} (mid : ℕ) → Doubts sound old mid first second true → Doubts sound mid new second third is_done → old ≡ 0 → new ≡ 1 → is_done ≡ false
failed_on zero a b e f = b.failed refl f
failed_on (suc zero) a b e f = let clash : true ≡ false = a.failed e refl in absurd (cc)
failed_on (suc (suc n)) a b e f = absurd (omega (arith, b.order, f))

-- a call that was done, and then another
pub Doubts-then : {sound : Type 0} {old mid new : ℕ} {first second third is_done : Bool} → Doubts sound old mid first second true → Doubts sound mid new second third is_done → Doubts sound old new first third is_done
Doubts-then {mid = mid} a b = record {
  order = omega (arith, a.order, b.order);
  failed = λ e f. failed_on mid a b e f;
  stays = λ s. omega (arith, a.stays s, b.stays s);
  room = λ r. a.room (b.room r);
}
