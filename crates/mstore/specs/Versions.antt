-- SPDX-License-Identifier: Apache-2.0
-- The versions of a store, and what the rows of one hold.
use Rattle.std.specs.Prelude.{◌≡◌, ℕ, pos, List}
use Rattle.std.specs.FinMap.{get}
use Rattle.sqlite_value.specs.declared.value.Value.{Value}
use Rattle.sqlite_value.specs.declared.value.Value.TheVariants.{Int}
use Rattle.sqlite_value.specs.Order.{Row}
use Rattle.sqlite_rules.specs.Lists.{Has}
use Rattle.mspec.specs.Globals.{Globals}
use Rattle.mspec.specs.KeyBytes.{key_bytes, IsStored}
use Rattle.mspec.specs.Node.{Node}
use Rattle.mspec.specs.Number.{significant_digits}
use Rattle.mkey.specs.Key.{old_digits}
use Rattle.mnodes.specs.Held.{AreHeld}
use Rattle.mstore.specs.Rows.{IsInFormBy, key_of, value_of, lookup}
use Rattle.mstore.specs.declared.version.Version.{Version}
use Rattle.mstore.specs.declared.version.Version.TheVariants.{First, Second}

-- the number that the table of the version has
abbrev pub number_of : Version → Value
number_of First = Int (pos 1)
number_of Second = Int (pos 2)

-- how many digits the numbers of its keys keep
abbrev pub digits_of : Version → ℕ
digits_of First = old_digits
digits_of Second = significant_digits

-- The rows hold these globals when the numbers of keys keep `kept` digits: each row is a node's, with its text, and the
-- text at each node is the one at its key.
pub record HoldBy (kept : ℕ) (rows : List Row) (g : Globals) : Type 0 where
  pub each : (r : Row) → Has rows r → IsInFormBy kept (key_of r) (value_of r)
  pub held : AreHeld g
  pub text : (n : Node) → IsStored n → get g n ≡ lookup rows (key_bytes kept n)
