-- SPDX-License-Identifier: Apache-2.0
use Rattle.mwire.proofs.WireWords.{◌≡◌, settings_of, seen_of, HasServedEach}

-- this many connections were served, by the same settings
abbrev pub invariant-loop-number : Rattle.mwire.proofs.connections.serve_each.Given.invariant-loop-number
invariant-loop-number g l = record {
  settings : settings_of l.world ≡ settings_of l.initial.world;
  served : HasServedEach g.S.NodeStore (settings_of l.initial.world) l.number (seen_of g.S.NodeStore l.initial.world) (seen_of g.S.NodeStore l.world)
      g.L.Listener.tells (g.L.Listener.waiting l.initial.listener) (g.L.Listener.waiting l.listener) (g.L.Listener.answered l.initial.listener) (g.L.Listener.answered l.listener);
}
