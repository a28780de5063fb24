-- SPDX-License-Identifier: Apache-2.0
-- Stores that do not refuse.
use Rattle.std.specs.Prelude.{IsTrue}
use Rattle.mnodes.specs.declared.store.NodeStore.{Ghosts}

-- the type is steady, and this store of it has room
abbrev pub IsSteady : {S : Type 0} → Ghosts S → S → Type 0
IsSteady g s = g.steady × IsTrue (g.has_room s)
