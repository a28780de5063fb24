-- SPDX-License-Identifier: Apache-2.0
-- What a call that is lent a store says of it, whatever it is for.
use Rattle.std.specs.Prelude.{Bool}
use Rattle.mnodes.specs.Doubt.{Doubts}
use Rattle.mnodes.specs.declared.store.NodeStore.{Ghosts}

-- what a call does to a store's doubt and room
abbrev pub DoubtsOver : {S : Type 0} → Ghosts S → S → S → Bool → Type 0
DoubtsOver g old new is_done = Doubts g.sound (g.doubt old) (g.doubt new) (g.has_room old) (g.has_room new) is_done
