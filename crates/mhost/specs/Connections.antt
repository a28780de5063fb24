-- SPDX-License-Identifier: Apache-2.0
-- What connections of a port change in a world, one after another.
use Rattle.std.specs.Prelude.{ℕ, [], Result}
use Rattle.mmeaning.specs.Transition.{Settings}
use Rattle.mnodes.specs.declared.store.NodeStore.{Ghosts}
use Rattle.mworld.specs.View.{Seen}
use Rattle.mwire.specs.Connections.{ServesEach}
use Rattle.mwire.specs.declared.fault.AcceptFault.{AcceptFault}

-- What `serve_each` says over a listener that does not tell who comes: all the connections were served, each as `serve` says, or fewer,
-- until none could be accepted.
abbrev pub ServesConnections : {S : Type 0} → Ghosts S → Settings → Seen → Seen → ℕ → Result (Unit {0}) AcceptFault → Type 0
ServesConnections g settings world after count result = ServesEach g settings count world after ⊥ [] [] [] [] result
