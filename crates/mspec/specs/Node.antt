-- SPDX-License-Identifier: Apache-2.0
-- Texts and nodes of globals.
use Rattle.std.specs.Prelude.{ℕ, List}

abbrev pub Text : Type 0
Text = List ℕ

-- a node of the globals: its account, its name and its subscripts
pub record Node : Type 0 where
  pub account : Text
  pub name : Text
  pub subscripts : List Text
