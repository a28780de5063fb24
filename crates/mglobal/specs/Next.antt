-- SPDX-License-Identifier: Apache-2.0
-- The node that comes next in a walk over the subscripts directly after those of a node.
use Rattle.std.specs.Prelude.{◌≡◌, ℕ, Bool, ◌&&◌, ◌||◌, List, Option}
use Rattle.mspec.specs.Globals.{Globals, is_beside, is_between, next_key, previous_key}
use Rattle.mspec.specs.KeyBytes.{key_bytes, IsStored}
use Rattle.mspec.specs.Node.{Text, Node}
use Rattle.mspec.specs.Number.{significant_digits}
use Rattle.mspec.specs.Trees.{Direction, Forward, Backward, is_before, is_empty, comes_before, is_passed}
use Rattle.mkey.specs.Under.{passes, child_under}

-- whether a subscript is on the side of x that the walk goes to; the empty x comes before all, and after all
abbrev pub is_onward : Direction → Text → Text → Bool
is_onward Forward x c = is_before x c
is_onward Backward x c = is_empty x || is_before c x

-- the keys from `low` on and before `high` are those of the nodes below n whose subscript there is on that side
abbrev pub BoundsOnward : Direction → Node → Text → List ℕ → List ℕ → Type 0
BoundsOnward direction n x low high = (m : Node) → IsStored m → is_between low high (key_bytes significant_digits m) ≡ passes (is_onward direction x) (child_under n m)

-- whether a walk from xs comes to ys
abbrev pub is_met : Direction → List Text → List Text → Bool
is_met Forward xs ys = comes_before xs ys
is_met Backward xs ys = is_passed xs ys

-- the keys from `low` on and before `high` are those of the nodes of n's global to which a walk from n comes
abbrev pub BoundsFollowing : Direction → Node → List ℕ → List ℕ → Type 0
BoundsFollowing direction n low high =
    (m : Node) → IsStored m → is_between low high (key_bytes significant_digits m) ≡ (is_beside n m && is_met direction n.subscripts m.subscripts)

-- the first key within bounds, or the last
abbrev pub nearest_key : Direction → Globals → List ℕ → List ℕ → Option (List ℕ)
nearest_key Forward g low high = next_key g low high
nearest_key Backward g low high = previous_key g low high
