-- SPDX-License-Identifier: Apache-2.0
use Rattle.mlocal.proofs.LocalWords.{◌≡◌, drop, is_among, keys_of, IsRaised}
use Rattle.mlocal.proofs.places.raise_named.Given as goal

abbrev pub invariant-loop-entry : goal.invariant-loop-entry
invariant-loop-entry l = IsRaised (λ n. is_among (keys_of (drop l.entry-index l.named)) n ≡ is_among (keys_of l.named) n) l.place l.initial.places l.places
