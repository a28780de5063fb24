-- SPDX-License-Identifier: Apache-2.0
-- Connections that a listener tells of, told by the port that it is at.
use Rattle.mhost.proofs.HostWords.{ℕ, List, Result, Ok, Err, Text, Ghosts, Settings, Seen}
use Rattle.mwire.specs.Connections.{HasServedEach, ServesEach}
use Rattle.mwire.specs.declared.fault.AcceptFault.{AcceptFault}

module _ {S : Type 0} (g : Ghosts S) (settings : Settings) (world after : Seen) (tells tells' : Type 0) (by : tells' → tells) (waiting waiting' answered answered' : List Text) where
  each_told : (count : ℕ) → HasServedEach g settings count world after tells waiting waiting' answered answered' → HasServedEach g settings count world after tells' waiting waiting' answered answered'
  each_told count h = record { visits = h.visits; many = h.many; served = h.served; of_peers = λ t. h.of_peers (by t); steps = h.steps; promise = h.promise }

  pub told : (count : ℕ) (result : Result (Unit {0}) AcceptFault) → ServesEach g settings count world after tells waiting waiting' answered answered' result
      → ServesEach g settings count world after tells' waiting waiting' answered answered' result
  told count (Ok done) s = each_told count s
  told count (Err fault) s = (s.0, s.1, λ t. s.2 (by t), each_told s.0 s.3)
