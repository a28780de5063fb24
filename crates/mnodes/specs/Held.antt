-- SPDX-License-Identifier: Apache-2.0
-- What a store may hold.
use Rattle.std.specs.Prelude.{◌≤◌, length, All}
use Rattle.std.specs.FinMap.{entries}
use Rattle.mspec.specs.Globals.{Globals}
use Rattle.mspec.specs.KeyBytes.{IsStored}
use Rattle.mspec.specs.Node.{Text, Node}
use Rattle.mspec.specs.TextFunctions.{max_text}

-- a node of a store, with a text of at most 4,095 characters
pub record IsHeld (e : Node × Text) : Type 0 where
  pub node : IsStored e.0
  pub text : length e.1 ≤ max_text

-- each node is one of a store, and has such a text
abbrev pub AreHeld : Globals → Type 0
AreHeld g = All IsHeld (entries g)
