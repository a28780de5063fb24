-- SPDX-License-Identifier: Apache-2.0
use Rattle.mislands.proofs.IslandWords.{◌≡◌, false, take, named, is_among}
use Rattle.mislands.proofs.listing.is_among.Given as goal

abbrev pub invariant-loop-island : goal.invariant-loop-island
invariant-loop-island l = is_among l.name (named l.settings (take l.island-index l.islands)) ≡ false
