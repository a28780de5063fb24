-- SPDX-License-Identifier: Apache-2.0
use Rattle.mgrant.proofs.GrantWords.{◌≡◌, true, take, names_of, are_names, entries_seen, IsIndex}

abbrev pub invariant-loop-place : Rattle.mgrant.proofs.checks.names_of.Given.invariant-loop-place
invariant-loop-place l = IsIndex (names_of (entries_seen (take l.place l.entries))) l.places × (are_names (names_of (entries_seen (take l.place l.entries))) ≡ true)
