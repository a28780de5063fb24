-- SPDX-License-Identifier: Apache-2.0
use Rattle.mgrant.proofs.GrantWords.{◌≡◌, false, get_or, filter, range_with_len}

abbrev pub invariant-loop-place : Rattle.mgrant.proofs.settings.marked.Given.invariant-loop-place
invariant-loop-place l = l.ids.items ≡ filter (λ p. get_or l.marks p false) (range_with_len 0 l.place)
