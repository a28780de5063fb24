-- SPDX-License-Identifier: Apache-2.0
use Rattle.mworld.proofs.WorldWords.{DoubtsOver, doubt_of, false, ◌≡◌, map, take, name_at, Tells, settings_of, world_of, event_of, replies_of, IsToldEach}
use Rattle.mworld.proofs.WorldWords.{IsToldUntilShut}
use Rattle.std.specs.Prelude.{IsTrue}
use Rattle.mworld.specs.Sufficed.{StoreSufficedForTold}
use Rattle.mworld.proofs.isolated.isolated_replies.Given as goal

abbrev pub invariant-loop-event : goal.invariant-loop-event
invariant-loop-event g l = record {
  settings : settings_of l.world ≡ settings_of l.initial.world;
  doubt : DoubtsOver g.S.NodeStore l.initial.world.store l.world.store false;
  told : doubt_of g.S.NodeStore l.world ≡ 0 → Tells (name_at (settings_of l.initial.world) l.account) (settings_of l.initial.world) (world_of g.S.NodeStore l.initial.world) (map event_of (take l.event-index l.events)) (replies_of l.isolated) l.isolated.whole (world_of g.S.NodeStore l.world);
  until_shut : doubt_of g.S.NodeStore l.initial.world ≡ 0 → doubt_of g.S.NodeStore l.world ≡ 1 → IsToldUntilShut (name_at (settings_of l.initial.world) l.account) (settings_of l.initial.world) (world_of g.S.NodeStore l.initial.world) (map event_of (take l.event-index l.events)) (replies_of l.isolated) l.isolated.whole;
  each : IsToldEach (name_at (settings_of l.initial.world) l.account) (settings_of l.initial.world) (map event_of (take l.event-index l.events)) (replies_of l.isolated);
  sufficed : g.S.NodeStore.steady → IsTrue (g.S.NodeStore.has_room l.world.store) → StoreSufficedForTold (replies_of l.isolated);
}
