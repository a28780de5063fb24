-- SPDX-License-Identifier: Apache-2.0
use Rattle.mgrant.proofs.GrantWords.{◌≡◌, true, take, are_grants, AreGranted, grants_seen, names_in}

abbrev pub invariant-loop-entry : Rattle.mgrant.proofs.checks.grants_of.Given.invariant-loop-entry
invariant-loop-entry l =
    AreGranted (names_in l.accounts) (grants_seen (take l.entry-index l.entries)) l.grants × (are_grants (names_in l.accounts) (grants_seen (take l.entry-index l.entries)) ≡ true)
