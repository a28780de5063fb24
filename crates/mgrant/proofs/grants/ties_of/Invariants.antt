-- SPDX-License-Identifier: Apache-2.0
use Rattle.mgrant.proofs.GrantWords.{◌≡◌, ℕ, List, take, map, list_any, Text, leads, placed, ties_at}

abbrev pub invariant-loop-given : Rattle.mgrant.proofs.grants.ties_of.Given.invariant-loop-given
invariant-loop-given l = (globals : List Text) (x y : ℕ) → list_any (leads x y) l.edges.items ≡ list_any (ties_at x y) (map (placed globals) (take l.given-index l.list))
