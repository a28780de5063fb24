-- SPDX-License-Identifier: Apache-2.0
-- What calls that run lines promise of the replies, and the one premise of it.
use Rattle.std.specs.Prelude.{◌≡◌, List}
use Rattle.mspec.specs.Node.{Text}
use Rattle.mspec.specs.Globals.{Globals}
use Rattle.mspec.specs.Access.{Settings}
use Rattle.mmeaning.specs.Transition.{World, Event, Reply}
use Rattle.mmeaning.specs.History.{opening, NoneFailed}
use Rattle.misolation.specs.Reach.{reachers}
use Rattle.misolation.specs.Cut.{part}
use Rattle.misolation.specs.HistoryLaws.{Promise}
use Rattle.mnodes.specs.declared.store.NodeStore.{Ghosts}
use Rattle.mworld.specs.declared.world.World as world
use Rattle.mworld.specs.View.{doubt_of}

-- What is said of the content of the world's store holds, and held before each line that was run so far: no fault has shut it, and no wrong
-- answer of a disk was taken as true.
abbrev pub IsUndoubted : {S : Type 0} (g : Ghosts S) → world.World S g → Type 0
IsUndoubted g w = doubt_of g w ≡ 0

-- **The promise.** These lines were run from a world that has globals alone. Then each account whose reaching accounts' lines did not fail
-- has the replies that `Promise` says: those of the definitional interpreter where there is nothing but what reaches it, and the same
-- replies in any other world that agrees on that.
abbrev pub KeepsPromise : Settings → World → List (Event × Reply) → Type 0
KeepsPromise settings world lines =
    (globals : Globals) → world ≡ opening globals → (a : Text) → NoneFailed (part (reachers settings a) settings lines) → Promise a settings globals lines
