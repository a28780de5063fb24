-- SPDX-License-Identifier: Apache-2.0
use Rattle.mstore.proofs.Words.{◌≡◌, ◌∙◌, OnOk, OnErr, TableOver, subst, without_subtree, stored}
use Rattle.mstore.proofs.Tied.{kill_agrees, kill_is, on_ok}
use Rattle.mstore.proofs.Tables.{count_seen, known, still_agrees, still_counted, still_store, doubts_seen}
use Rattle.mstore.proofs.Rooms.{room_parts, store_is}
use Rattle.mstore.proofs.table.TableNodeStore.kill.Goals as goal

pub invariant_of-self : goal.invariant_of-self
invariant_of-self g c = (
  still_store g.S.Store c.self.inside.conn c.remove_range-killed.new.conn c.self.inside.alone c.self.invariant.0 c.remove_range-killed.ensures.doubt.order c.remove_range-killed.ensures.store,
  c.remove_range-killed.ensures.limit ∙ c.self.invariant.1,
  still_counted g.S.Store c.self.inside.conn c.remove_range-killed.new.conn c.self.inside.alone c.self.invariant.0 c.remove_range-killed.ensures.doubt.order c.self.invariant.2
      (λ was sure less. (less, c.remove_range-killed.ensures.numbers was sure c.self.inside.numbers)),
  still_agrees g.S.Store c.self.inside.conn c.remove_range-killed.new.conn c.self.inside.alone c.self.invariant.0 c.self.inside.stretch c.settle.new.self c.remove_range-killed.ensures.doubt.order c.self.invariant.3
      (λ was sure agree.
      kill_agrees _ _ _ _ c.remove_range-killed.result c.is_ok.result c.is_ok.ensures.value (c.remove_range-killed.ensures.removed was sure)
      (λ outside. c.settle.ensures.kept _ (c.leave_out_range.ensures _ _ agree outside)) (λ failed. c.settle.ensures.failed failed _)),
)

pub returns : goal.returns
returns g c =
    let old = c.self.inside.conn in
    let new = c.remove_range-killed.new.conn in
    let d = c.remove_range-killed.ensures.doubt in
    record {
      killed = λ sure.
          let it = known g.S.Store old new c.self.inside.alone c.self.invariant.0 d.order sure in
          let gone = rw (c.as_bytes-low.ensures.bytes, c.as_slice-high.ensures.value, c.in_ok-end.ensures.bytes) at c.remove_range-killed.ensures.removed it.0 it.1 in
          subst (λ (t : TableOver _). OnOk c.remove_range-killed.result (stored g.S.Store new ≡ without_subtree (stored g.S.Store t.conn) c.args.key.now)) c.self.view_is
          (on_ok c.remove_range-killed.result (kill_is g.S.Store old new it.0 (c.remove_range-killed.ensures.store it.0 it.1) c.args.key.now c.as_bytes-low.ensures.stored) gone);
      fault = λ sure.
          let it = known g.S.Store old new c.self.inside.alone c.self.invariant.0 d.order sure in
          subst (λ (t : TableOver _). OnErr c.remove_range-killed.result (stored g.S.Store new ≡ stored g.S.Store t.conn)) c.self.view_is (c.remove_range-killed.ensures.fault it.0 it.1);
      doubt = doubts_seen g.S.Store old new c.self.inside.alone c.self.invariant.0 _ c.self.view_is _ d;
      store = λ beneath room.
          c.remove_range-killed.ensures.refused beneath (store_is g.S.Store beneath old new c.self.inside.alone (c.self.invariant.0, c.self.invariant.1, c.self.invariant.2) (room_parts _ _ room).0) c.self.invariant.1;
      counts = count_seen g.S.Store old new c.self.inside.alone c.self.invariant.0 _ c.self.view_is;
    }
