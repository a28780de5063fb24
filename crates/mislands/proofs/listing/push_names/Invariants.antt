-- SPDX-License-Identifier: Apache-2.0
use Rattle.mislands.proofs.IslandWords.{◌≡◌, ◌++◌, take}
use Rattle.mislands.specs.Listing.{names_at}
use Rattle.mislands.proofs.Lines.{behind_spaces}
use Rattle.mislands.proofs.listing.push_names.Given as goal

abbrev pub invariant-loop-account : goal.invariant-loop-account
invariant-loop-account l = l.text.items ≡ l.initial.text.items ++ behind_spaces (names_at l.settings (take l.account-index l.accounts))
