-- SPDX-License-Identifier: Apache-2.0
use Rattle.mstore.proofs.Words.{◌≡◌, ◌∙◌, sym, OnOk, OnErr, TableOver, subst, stored, insert}
use Rattle.mstore.proofs.Tied.{put_but, put_is, on_ok}
use Rattle.mstore.specs.Database.{node_rows}
use Rattle.mstore.specs.Room.{AreUpTo, counted_on}
use Rattle.mstore.proofs.Numbers.{counted_less}
use Rattle.mstore.proofs.Tables.{known, still_agrees, still_counted, still_store, doubts_counted, held_seen}
use Rattle.mstore.proofs.Doubting.{memory_is_sure}
use Rattle.mstore.proofs.Putting.{on_fault, on_put}
use Rattle.mstore.proofs.Rooms.{room_parts, store_is, not_full}
use Rattle.mstore.proofs.table.TableNodeStore.put.Goals as goal

pub invariant_of-self : goal.invariant_of-self
invariant_of-self g c = (
  still_store g.S.Store c.self.inside.conn c.store_value-put.new.conn c.self.inside.alone c.self.invariant.0 c.store_value-put.ensures.puts.doubt.order c.store_value-put.ensures.puts.store,
  c.store_value-put.ensures.puts.limit ∙ c.self.invariant.1,
  still_counted g.S.Store c.self.inside.conn c.store_value-put.new.conn c.self.inside.alone c.self.invariant.0 c.store_value-put.ensures.puts.doubt.order c.self.invariant.2
      (λ was sure less.
      let more = counted_less _ _ c.one_more-self-inside.ensures less in
      (more.0, λ up. subst (λ n. AreUpTo n (node_rows g.S.Store c.store_value-put.new.conn)) (sym more.1) (c.store_value-put.ensures.puts.numbers was sure c.self.inside.numbers up))),
  still_agrees g.S.Store c.self.inside.conn c.store_value-put.new.conn c.self.inside.alone c.self.invariant.0 c.self.inside.stretch c.settle.new.self c.store_value-put.ensures.puts.doubt.order c.self.invariant.3
      (λ was sure agree. c.settle.ensures.kept _ (c.leave_out.ensures _ _ agree (put_but g.S.Store c.self.inside.conn c.store_value-put.new.conn _ _ _ (c.store_value-put.ensures.puts.rows was sure)))),
)

pub returns : goal.returns
returns g c =
    let old = c.self.inside.conn in
    let new = c.store_value-put.new.conn in
    let d = c.store_value-put.ensures.puts.doubt in
    record {
      put = λ sure.
          let it = known g.S.Store old new c.self.inside.alone c.self.invariant.0 d.order sure in
          let put = on_put g.S.Store old new _ _ c.store_value-put.result (rw (c.as_bytes-bytes.ensures.bytes, c.as_bytes.ensures.bytes) at c.store_value-put.ensures.puts.rows it.0 it.1) in
          subst (λ (t : TableOver _). OnOk c.store_value-put.result (stored g.S.Store new ≡ insert (stored g.S.Store t.conn) c.args.key.now c.args.text.now)) c.self.view_is
          (on_ok c.store_value-put.result (put_is g.S.Store old new it.0 (c.store_value-put.ensures.puts.store it.0 it.1) c.args.key.now c.args.text.now c.as_bytes-bytes.ensures.stored) put);
      held = λ sure.
          let it = known g.S.Store old new c.self.inside.alone c.self.invariant.0 d.order sure in
          on_ok c.store_value-put.result (λ _. held_seen g.S.Store old new c.self.inside.alone c.self.invariant.0 _ c.self.view_is d.order sure) (on_put g.S.Store old new _ _ c.store_value-put.result (c.store_value-put.ensures.puts.rows it.0 it.1));
      fault = λ sure.
          let it = known g.S.Store old new c.self.inside.alone c.self.invariant.0 d.order sure in
          subst (λ (t : TableOver _). OnErr c.store_value-put.result (stored g.S.Store new ≡ stored g.S.Store t.conn)) c.self.view_is (on_fault g.S.Store old new _ _ c.store_value-put.result (c.store_value-put.ensures.puts.rows it.0 it.1));
      doubt =
          doubts_counted g.S.Store old new c.self.inside.alone c.self.invariant.0 _ c.self.view_is c.one_more-self-inside.result _ d
          (λ less. (counted_less _ _ c.one_more-self-inside.ensures less).0);
      store = λ beneath room refused.
          not_full g.S.Store beneath old new c.self.inside.alone (c.self.invariant.0, c.self.invariant.1, c.self.invariant.2) (room_parts _ _ room).0 c.one_more-self-inside.result (room_parts _ _ room).1 (counted_less _ _ c.one_more-self-inside.ensures)
          (λ n up. c.store_value-put.ensures.puts.numbers (store_is g.S.Store beneath old new c.self.inside.alone (c.self.invariant.0, c.self.invariant.1, c.self.invariant.2) (room_parts _ _ room).0) (memory_is_sure g.S.Store new beneath.memory) n up)
          (c.store_value-put.ensures.full beneath (store_is g.S.Store beneath old new c.self.inside.alone (c.self.invariant.0, c.self.invariant.1, c.self.invariant.2) (room_parts _ _ room).0) c.self.invariant.1 refused);
      counts = subst (λ (t : TableOver _). c.one_more-self-inside.result ≡ counted_on t.numbers) c.self.view_is c.one_more-self-inside.ensures;
    }
