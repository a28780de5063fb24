-- SPDX-License-Identifier: Apache-2.0
use Rattle.mgrant.proofs.GrantWords.{◌≡◌, take, vec_len, HasTerminals, claims, entries_seen}

abbrev pub invariant-loop-place : Rattle.mgrant.proofs.checks.terminals_of.Given.invariant-loop-place
invariant-loop-place l = HasTerminals (claims 0 (entries_seen (take l.place l.accounts))) l.terminals.items × (vec_len l.terminals ≡ 10000)
