-- SPDX-License-Identifier: Apache-2.0
use Rattle.mislands.proofs.IslandWords.{◌≡◌, take, named, lines_of}
use Rattle.mislands.proofs.listing.lines.Given as goal

abbrev pub invariant-loop-island : goal.invariant-loop-island
invariant-loop-island l = l.text.items ≡ lines_of (named l.settings (take l.island-index l.islands))
