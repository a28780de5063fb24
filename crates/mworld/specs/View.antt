-- SPDX-License-Identifier: Apache-2.0
-- A world and a reply of the program as those of the definitions.
use Rattle.std.specs.Prelude.{ℕ, Bool}
use Rattle.std.specs.Ordering.{nat_cmp}
use Rattle.std.specs.HashMap.{HashMap}
use Rattle.std.specs.FinMap.{FinMap}
use Rattle.mspec.specs.Maps.{hash_map_of}
use Rattle.mspec.specs.Access.{Settings}
use Rattle.mspec.specs.LockConflict.{Locks}
use Rattle.mmeaning.specs.Transition as transition
use Rattle.mnodes.specs.declared.store.NodeStore.{Ghosts}
use Rattle.meval.specs.declared.session.Session.{Session}
use Rattle.meval.specs.Sessions.{session_of}
use Rattle.mexec.specs.Runs.{ending_of}
use Rattle.mworld.specs.declared.reply.Event.{Event}
use Rattle.mworld.specs.declared.reply.Reply.{Reply}
use Rattle.mworld.specs.declared.world.World.{World}

abbrev pub settings_of : {S : Type 0} {g : Ghosts S} → World S g → Settings
settings_of w = w.settings

-- what all terminals share
abbrev pub shared : {S : Type 0} → Ghosts S → S → Locks → transition.Shared
shared g store locks = record { globals = g.content store; locks = locks }

abbrev pub sessions_of : {H : Type 0} → HashMap ℕ Session H → FinMap nat_cmp transition.Session
sessions_of m = hash_map_of {R = nat_cmp} session_of m

abbrev pub world_of : {S : Type 0} (g : Ghosts S) → World S g → transition.World
world_of g w = record { shared = shared g w.store w.locks; sessions = sessions_of w.sessions }

-- how far what is said of its store can be relied on
abbrev pub doubt_of : {S : Type 0} (g : Ghosts S) → World S g → ℕ
doubt_of g w = g.doubt w.store

-- a world as calls say what they did to it: with that doubt, and whether its store has room
pub record Seen : Type 0 where
  pub world : transition.World
  pub doubt : ℕ
  pub has_room : Bool

abbrev pub seen_of : {S : Type 0} (g : Ghosts S) → World S g → Seen
seen_of g w = record { world = world_of g w; doubt = doubt_of g w; has_room = g.has_room w.store }

abbrev pub reply_of : Reply → transition.Reply
reply_of r = record { out = r.out.items; ending = ending_of r.ending }

abbrev pub event_of : Event → transition.Event
event_of e = record { terminal = e.terminal; text = e.text.items }
