-- SPDX-License-Identifier: Apache-2.0
use Rattle.mstore.proofs.Words.{◌≢◌, ◌≡◌, sym, subst, ◌∙◌, bytes_decides, state, key_bytes, significant_digits, content, OnOk, doubt_of, IsWorking, RanInside}
use Rattle.mstore.proofs.Words.{MovesKey, Kill, Put, sql}
use Rattle.std.proofs.Common.{true≢false}
use Rattle.mstore.proofs.Doubting.{sure_before, rises_on}
use Rattle.mstore.proofs.Tied.{on_ok}
use Rattle.mstore.proofs.Works.{kills_inside, moves_inside}
use Rattle.mstore.proofs.migrating.move_key.Goals as goal

pub returns : goal.returns
returns g c =
    let old = state g.S.Store c.args.tx.now.conn.now in
    let mid = state g.S.Store c.change_inside.new.tx.conn.now in
    let new = state g.S.Store c.change_inside-2.new.tx.conn.now in
    let from = c.args.key.now in
    let value = c.args.value.now in
    let next = c.as_slice.result.now in
    let to = key_bytes significant_digits c.in_ok-node.node in
    let apart : from ≢ to = λ e. true≢false (sym (c.eq.ensures ∙ (bytes_decides c.as_bytes-place.result.now from).1 (c.as_bytes-place.ensures.bytes ∙ sym e)) ∙ c.if-eq.false) in
    let early : doubt_of g.S.Store c.change_inside-2.new.tx.conn.now ≡ 0 → doubt_of g.S.Store c.change_inside.new.tx.conn.now ≡ 0 = λ sure. sure_before sure c.change_inside-2.ensures.order in
    let gone : doubt_of g.S.Store c.change_inside-2.new.tx.conn.now ≡ 0 → IsWorking old → RanInside (sql Kill) from next old mid = λ sure was. c.in_ok-change_inside.ensures.ran (early sure) was in
    let works : doubt_of g.S.Store c.change_inside-2.new.tx.conn.now ≡ 0 → IsWorking old → IsWorking mid = λ sure was. (kills_inside old mid was from next (gone sure was)).0.0 in
    let all : doubt_of g.S.Store c.change_inside-2.new.tx.conn.now ≡ 0 → IsWorking old → OnOk c.change_inside-2.result (IsWorking new × MovesKey (content old) (content new) from to value × (new.now.trees 2 ≡ old.now.trees 2)) =
    λ sure was. on_ok c.change_inside-2.result
    (λ put. moves_inside old mid new was from to value next apart (c.as_slice.ensures.value ∙ c.in_ok-next.ensures) (gone sure was) (subst (λ k. RanInside (sql Put) k value mid new) c.as_bytes-place.ensures.bytes put))
    (c.change_inside-2.ensures.ran sure (works sure was)) in
    record {
      order = rises_on c.in_ok-change_inside.ensures.order c.change_inside-2.ensures.order;
      same_reference = c.change_inside-2.ensures.same_reference ∙ c.in_ok-change_inside.ensures.same_reference;
      committed = λ sure was. c.change_inside-2.ensures.committed sure (works sure was) ∙ c.in_ok-change_inside.ensures.committed (early sure) was;
      working = λ sure was. on_ok c.change_inside-2.result (λ it. it.0) (all sure was);
      moved = λ sure was. on_ok c.change_inside-2.result (λ it. (c.in_ok-node.node, c.in_ok-node.ensures, it.1)) (all sure was);
      version = λ sure was. on_ok c.change_inside-2.result (λ it. it.2) (all sure was);
    }
