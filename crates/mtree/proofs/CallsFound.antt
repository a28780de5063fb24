-- SPDX-License-Identifier: Apache-2.0
-- Whether a call is found in a list, looked for from the front, and whether all in a list can be carried out a step at a time.
use Rattle.std.proofs.Common.{◌≡◌, Bool, true, false, refl}
use Rattle.std.specs.Prelude.{◌||◌, ◌&&◌}

-- among one more
pub either_more : (a b c : Bool) → (a || b) || c ≡ a || (b || c)
either_more true b c = refl
either_more false b c = refl

-- all of one more
pub both_more : (a b c : Bool) → (a && b) && c ≡ a && (b && c)
both_more true b c = refl
both_more false b c = refl
