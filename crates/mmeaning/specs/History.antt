-- SPDX-License-Identifier: Apache-2.0
-- Histories: events with their replies, one transition after another.
use Rattle.std.specs.Prelude.{◌≡◌, false, List, [], ◌∷◌}
use Rattle.std.specs.FinMap.{empty}
use Rattle.mspec.specs.Globals.{Globals}
use Rattle.mmeaning.specs.Transition.{Settings, World, Event, Reply, Transition, normal, is_failure}

abbrev pub History : Settings → World → List (Event × Reply) → World → Type 0
History settings world [] after = after ≡ world
History settings world (e ∷ es) after = (between : World) × Transition settings e.0 e.1 world between × History settings between es after

-- a world before its first line: it has globals alone, no session is open and no lock is held
abbrev pub opening : Globals → World
opening globals = record { shared = record { globals = globals; locks = empty }; sessions = empty }

-- the replies of normal transitions
abbrev pub replies : Settings → World → List Event → List Reply
replies settings world [] = []
replies settings world (e ∷ es) = (normal settings e world).0 ∷ replies settings (normal settings e world).1 es

-- the world after normal transitions
abbrev pub world_after : Settings → World → List Event → World
world_after settings world [] = world
world_after settings world (e ∷ es) = world_after settings (normal settings e world).1 es

-- the events with the replies of normal transitions
abbrev pub answered : Settings → World → List Event → List (Event × Reply)
answered settings world [] = []
answered settings world (e ∷ es) = (e, (normal settings e world).0) ∷ answered settings (normal settings e world).1 es

-- no transition failed
abbrev pub NoneFailed : List (Event × Reply) → Type 0
NoneFailed [] = Unit {0}
NoneFailed (e ∷ es) = (is_failure e.1.ending ≡ false) × NoneFailed es
