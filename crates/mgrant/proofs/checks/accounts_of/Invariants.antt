-- SPDX-License-Identifier: Apache-2.0
use Rattle.mgrant.proofs.GrantWords.{◌≡◌, true, take, map, account_of, are_steps, entries_seen}

abbrev pub invariant-loop-entry : Rattle.mgrant.proofs.checks.accounts_of.Given.invariant-loop-entry
invariant-loop-entry l =
    (l.accounts.items ≡ map account_of (entries_seen (take l.entry-index l.entries))) × (are_steps (entries_seen (take l.entry-index l.entries)) ≡ true)
