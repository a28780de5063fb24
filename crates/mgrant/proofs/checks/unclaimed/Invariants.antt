-- SPDX-License-Identifier: Apache-2.0
use Rattle.mgrant.proofs.GrantWords.{◌≡◌, [], vec_len, HasTerminals}

abbrev pub invariant-loop : Rattle.mgrant.proofs.checks.unclaimed.Given.invariant-loop
invariant-loop l = HasTerminals [] l.terminals.items × (vec_len l.terminals ≡ l.counter)
