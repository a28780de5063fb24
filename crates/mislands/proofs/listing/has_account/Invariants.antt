-- SPDX-License-Identifier: Apache-2.0
use Rattle.mislands.proofs.IslandWords.{◌≡◌, false, take, list_any, text_eq}
use Rattle.mislands.specs.Listing.{names_at}
use Rattle.mislands.proofs.listing.has_account.Given as goal

abbrev pub invariant-loop-account : goal.invariant-loop-account
invariant-loop-account l = list_any (text_eq l.name) (names_at l.settings (take l.account-index l.island)) ≡ false
