-- SPDX-License-Identifier: Apache-2.0
-- The node next above a node, and where its key ends.
use Rattle.std.specs.Prelude.{◌≡◌, ℕ, List, [], ◌∷◌, ◌++◌, take}
use Rattle.mspec.specs.Act.{Text, Node}
use Rattle.mspec.specs.KeyBytes.{key_bytes}
use Rattle.mspec.specs.Number.{significant_digits}

-- the first node has the other's account and name, and its subscripts but the last
pub record IsParent (above below : Node) : Type 0 where
  pub account : above.account ≡ below.account
  pub name : above.name ≡ below.name
  pub longer : (s : Text) × (below.subscripts ≡ above.subscripts ++ s ∷ [])

-- the first `start` bytes are the key of the node next above this one
abbrev pub IsLastAt : Node → List ℕ → ℕ → Type 0
IsLastAt n bytes start = (above : Node) × IsParent above n × (key_bytes significant_digits above ≡ take start bytes)
