-- SPDX-License-Identifier: Apache-2.0
use Rattle.mstore.proofs.Words.{◌≡◌, ◌∙◌, IfOk, TableOver, get, subst, stored}
use Rattle.mstore.proofs.Tied.{text_told}
use Rattle.mstore.proofs.Doubting.{memory_is_sure}
use Rattle.mstore.proofs.Tables.{agreed_before, count_seen, known, kept_agrees, kept_counted, still_store, reading_seen, same_seen, held_seen}
use Rattle.mstore.proofs.Rooms.{room_parts, store_is}
use Rattle.mstore.proofs.table.TableNodeStore.get.Goals as goal

pub invariant_of-self : goal.invariant_of-self
invariant_of-self g c = (
  still_store g.S.Store c.self.inside.conn c.text_at.new.conn c.self.inside.alone c.self.invariant.0 c.text_at.ensures.doubt.order (λ was sure. (c.text_at.ensures.kept was sure).0),
  c.text_at.ensures.limit ∙ c.self.invariant.1,
  kept_counted g.S.Store c.self.inside.conn c.text_at.new.conn c.self.inside.alone c.self.invariant.0 c.text_at.ensures.doubt.order c.self.invariant.2 c.text_at.ensures.kept,
  kept_agrees g.S.Store c.self.inside.conn c.text_at.new.conn c.self.inside.alone c.self.invariant.0 c.self.inside.stretch c.text_at.new.stretch c.text_at.ensures.doubt.order c.self.invariant.3 c.text_at.ensures.kept
      c.text_at.ensures.agrees,
)

pub returns : goal.returns
returns g c =
    let old = c.self.inside.conn in
    let new = c.text_at.new.conn in
    let d = c.text_at.ensures.doubt in
    record {
      found = λ sure.
          let it = known g.S.Store old new c.self.inside.alone c.self.invariant.0 d.order sure in
          let agree = agreed_before g.S.Store old new c.self.inside.alone c.self.invariant.0 c.self.inside.stretch d.order c.self.invariant.3 sure in
          let told = rw c.as_bytes.ensures.bytes at c.text_at.ensures.found it.0 it.1 agree in
          subst (λ (t : TableOver _). IfOk c.text_at.result (λ text. text ≡ get (stored g.S.Store t.conn) c.args.key.now)) c.self.view_is
          (text_told g.S.Store old it.0 c.args.key.now c.as_bytes.ensures.stored c.text_at.result told);
      held = λ sure. held_seen g.S.Store old new c.self.inside.alone c.self.invariant.0 _ c.self.view_is d.order sure;
      same = λ sure. same_seen g.S.Store old new c.self.inside.alone c.self.invariant.0 _ c.self.view_is d.order c.text_at.ensures.kept sure;
      doubt = reading_seen g.S.Store old new c.self.inside.alone c.self.invariant.0 _ c.self.view_is _ d;
      store = λ beneath room.
          let alone = (room_parts _ _ room).0 in
          c.text_at.ensures.store beneath (store_is g.S.Store beneath old new c.self.inside.alone (c.self.invariant.0, c.self.invariant.1, c.self.invariant.2) alone) c.self.invariant.1
          (c.self.invariant.3 alone (memory_is_sure g.S.Store old beneath.memory));
      counts = count_seen g.S.Store old new c.self.inside.alone c.self.invariant.0 _ c.self.view_is;
    }
