-- SPDX-License-Identifier: Apache-2.0
use Rattle.mlocal.proofs.LocalWords.{◌≡◌, ◌<◌, Text, place_at, slot}
use Rattle.mlocal.proofs.places.raise_all.Given as goal

abbrev pub invariant-loop-slot : goal.invariant-loop-slot
invariant-loop-slot l = (n : Text) → slot n < l.slot → place_at l.places n ≡ l.place
