-- SPDX-License-Identifier: Apache-2.0
use Rattle.mstore.proofs.Words.{◌≡◌, ◌∙◌, IfOk, TableOver, option_map, subst, previous_key, stored}
use Rattle.mstore.proofs.Tables.{agreed_before, count_seen, known, kept_agrees, kept_counted, still_store, reading_seen, same_seen, held_seen}
use Rattle.mstore.proofs.Rooms.{room_parts, store_is}
use Rattle.mstore.proofs.table.TableNodeStore.prev.Goals as goal

pub invariant_of-self : goal.invariant_of-self
invariant_of-self g c = (
  still_store g.S.Store c.self.inside.conn c.last_key.new.conn c.self.inside.alone c.self.invariant.0 c.last_key.ensures.doubt.order (λ was sure. (c.last_key.ensures.kept was sure).0),
  c.last_key.ensures.limit ∙ c.self.invariant.1,
  kept_counted g.S.Store c.self.inside.conn c.last_key.new.conn c.self.inside.alone c.self.invariant.0 c.last_key.ensures.doubt.order c.self.invariant.2 c.last_key.ensures.kept,
  kept_agrees g.S.Store c.self.inside.conn c.last_key.new.conn c.self.inside.alone c.self.invariant.0 c.self.inside.stretch c.last_key.new.stretch c.last_key.ensures.doubt.order c.self.invariant.3 c.last_key.ensures.kept
      c.last_key.ensures.agrees,
)

pub returns : goal.returns
returns g c =
    let old = c.self.inside.conn in
    let new = c.last_key.new.conn in
    let d = c.last_key.ensures.doubt in
    record {
      found = λ sure.
          let it = known g.S.Store old new c.self.inside.alone c.self.invariant.0 d.order sure in
          let agree = agreed_before g.S.Store old new c.self.inside.alone c.self.invariant.0 c.self.inside.stretch d.order c.self.invariant.3 sure in
          subst (λ (t : TableOver _). IfOk c.last_key.result (λ key. option_map (λ bytes. bytes.items) key ≡ previous_key (stored g.S.Store t.conn) c.args.low.now c.args.high.now)) c.self.view_is (c.last_key.ensures.found it.0 it.1 agree);
      held = λ sure. held_seen g.S.Store old new c.self.inside.alone c.self.invariant.0 _ c.self.view_is d.order sure;
      same = λ sure. same_seen g.S.Store old new c.self.inside.alone c.self.invariant.0 _ c.self.view_is d.order c.last_key.ensures.kept sure;
      doubt = reading_seen g.S.Store old new c.self.inside.alone c.self.invariant.0 _ c.self.view_is _ d;
      store = λ beneath room.
          c.last_key.ensures.store beneath (store_is g.S.Store beneath old new c.self.inside.alone (c.self.invariant.0, c.self.invariant.1, c.self.invariant.2) (room_parts _ _ room).0) c.self.invariant.1;
      counts = count_seen g.S.Store old new c.self.inside.alone c.self.invariant.0 _ c.self.view_is;
    }
