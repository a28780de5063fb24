-- SPDX-License-Identifier: Apache-2.0
use Rattle.mgrant.proofs.GrantWords.{◌≡◌, List, take, vec_len, Claim, HasTerminals, claims_at}

abbrev pub invariant-loop-terminal : Rattle.mgrant.proofs.checks.claim.Given.invariant-loop-terminal
invariant-loop-terminal l =
    ((seen : List Claim) → HasTerminals seen l.initial.terminals.items → HasTerminals (claims_at l.place (take l.terminal-index l.listed) seen) l.terminals.items)
    × (vec_len l.terminals ≡ 10000)
