-- SPDX-License-Identifier: Apache-2.0
-- The words of the crates below that many contracts of this crate have, in one place.
pub use Rattle.mspec.specs.Globals.{lines_of, order_at, status}
pub use Rattle.mspec.specs.KeyBytes.{AreSubscripts, IsAccountName, IsSubscript}
pub use Rattle.mspec.specs.Names.{IsName}
pub use Rattle.mspec.specs.Trees.{AreOrderSubscripts, Forward, front, is_before, last}
pub use Rattle.mkey.specs.Front.{IsSub}
pub use Rattle.mkey.specs.Way.{way}
pub use Rattle.mnodes.specs.Held.{AreHeld}
