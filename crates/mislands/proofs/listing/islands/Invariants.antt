-- SPDX-License-Identifier: Apache-2.0
use Rattle.mislands.proofs.IslandWords.{take, texts_of, named, AreIslands}
use Rattle.mislands.proofs.listing.islands.Given as goal

abbrev pub invariant-loop-name : goal.invariant-loop-name
invariant-loop-name l = AreIslands l.settings (texts_of (take l.name-index l.names)) (named l.settings l.islands.items)
