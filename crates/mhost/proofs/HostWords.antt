-- SPDX-License-Identifier: Apache-2.0
-- The words that most proofs of this crate have, in one place.
pub use Rattle.std.proofs.Common.{Bool, Err, List, None, Ok, Option, Result, Some, [], ap, arith, cond, false, inl, inr, length, refl, subst, suc, sym, true}
pub use Rattle.std.proofs.Common.{zero, ℕ, ◌<◌, ◌∙◌, ◌∷◌, ◌≡◌, ◌≢◌}
pub use Rattle.std.specs.FinMap.{empty}
pub use Rattle.mgrant.specs.Reading.{IsRead}
pub use Rattle.mmeaning.specs.History.{opening}
pub use Rattle.mmeaning.specs.Transition.{Settings}
pub use Rattle.mspec.specs.Act.{Text}
pub use Rattle.mspec.specs.Globals.{Globals}
pub use Rattle.mnodes.specs.declared.store.NodeStore.{Ghosts}
pub use Rattle.mwire.specs.declared.fault.WireFault.{WireFault}
pub use Rattle.mwire.specs.declared.watched.Watched.{Watched}
pub use Rattle.mworld.specs.View.{Seen, seen_of, settings_of, world_of}
pub use Rattle.mhost.specs.Faults.{AreUntouched, DeviceFailed, IsMemoryFault, IsStoreFault, NoSettings}
pub use Rattle.mhost.specs.declared.fault.RunFault.{RunFault}
