-- SPDX-License-Identifier: Apache-2.0
-- What lines in a row do to the doubt of a store.
use Rattle.std.proofs.Common.{◌≡◌, ◌≤◌, ℕ, Bool, false, refl, arith}
use Rattle.mnodes.specs.Doubt.{Doubts}

-- calls in a row, whichever of them were done
pub Doubts-on : {sound : Type 0} {old mid new : ℕ} {had_room mid_room has_room first last : Bool} → Doubts sound old mid had_room mid_room first → Doubts sound mid new mid_room has_room last → Doubts sound old new had_room has_room false
Doubts-on a b = record {
  order = omega (arith, a.order, b.order);
  failed = λ e f. refl;
  stays = λ s. omega (arith, a.stays s, b.stays s);
  room = λ r. a.room (b.room r);
}
