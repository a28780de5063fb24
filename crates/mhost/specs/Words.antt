-- SPDX-License-Identifier: Apache-2.0
-- The words of the crates below that many contracts of this crate have, in one place.
pub use Rattle.mspec.specs.Globals.{Globals}
pub use Rattle.mmeaning.specs.History.{opening}
pub use Rattle.mcache.specs.CachedStore.{cached_store}
pub use Rattle.mworld.specs.View.{settings_of, world_of}
