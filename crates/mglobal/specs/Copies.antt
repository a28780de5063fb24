-- SPDX-License-Identifier: Apache-2.0
-- Copies of routines beside a store.
use Rattle.std.specs.Prelude.{◌≡◌, false, ◌||◌, All, List}
use Rattle.mspec.specs.Globals.{Globals, is_node_within, lines_of}
use Rattle.mspec.specs.Node.{Node}
use Rattle.mglobal.specs.Lines.{routine_at}
use Rattle.mglobal.specs.declared.copies.RoutineCopy.{RoutineCopy}

-- a copy has the lines of its routine as they are in a store, and its key is that of the node above them
pub record IsCopyIn (g : Globals) (copy : RoutineCopy) : Type 0 where
  pub key : copy.key ≡ routine_at copy.account copy.name
  pub lines : copy.lines.value.items ≡ lines_of g copy.account copy.name

abbrev pub AreCopiesIn : Globals → List RoutineCopy → Type 0
AreCopiesIn g copies = All (IsCopyIn g) copies

-- neither node is the other or is below it
abbrev pub IsApart : Node → RoutineCopy → Type 0
IsApart n copy = (is_node_within n copy.key || is_node_within copy.key n) ≡ false
