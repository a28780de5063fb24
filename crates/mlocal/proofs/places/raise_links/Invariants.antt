-- SPDX-License-Identifier: Apache-2.0
use Rattle.mlocal.proofs.LocalWords.{◌≡◌, drop, lookup, text_eq, IsRaised}
use Rattle.mlocal.proofs.places.raise_links.Given as goal

abbrev pub invariant-loop-link : goal.invariant-loop-link
invariant-loop-link l = IsRaised (λ n. lookup (text_eq n) (drop l.link-index l.links) ≡ lookup (text_eq n) l.links) l.place l.initial.places l.places
