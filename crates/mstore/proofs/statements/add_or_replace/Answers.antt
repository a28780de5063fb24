-- SPDX-License-Identifier: Apache-2.0
use Rattle.mstore.proofs.Words.{true≢false, sym, ◌∙◌}
use Rattle.mstore.proofs.Doubting.{memory_is_sure}
use Rattle.mstore.proofs.Putting.{both_full, both_put, not_and_there, same_mid, settled, settled_full, was_mid}
use Rattle.mstore.proofs.statements.add_or_replace.Goals as goal

pub returns-then-is_idle : goal.returns-then-is_idle
returns-then-is_idle g c =
    let store = g.S.Store in
    let old = c.args.conn.now in
    let mid = c.add_value-first.new.conn in
    let new = c.replace_value.new.conn in
    let k = c.args.key.now in
    let v = c.args.value.now in
    let idle = c.is_idle.ensures.0 c.if-is_idle.true in
    record {
      puts =
          both_put store old mid new k v c.add_value-first.result c.replace_value.result c.add_value-first.ensures.puts idle c.replace_value.ensures.puts c.served.result c.served.ensures.done;
      full =
          both_full store old mid new k v c.add_value-first.result c.replace_value.result c.add_value-first.ensures.puts idle c.replace_value.ensures.puts c.replace_value.ensures.full c.served.result c.served.ensures.refused
          (λ beneath was unlimited none.
          not_and_there _ _ k (same_mid store old mid new k v c.add_value-first.result c.replace_value.result c.add_value-first.ensures.puts idle c.replace_value.ensures.puts beneath was unlimited)
          (c.add_value-first.ensures.some beneath was unlimited idle)
          (c.replace_value.ensures.none (was_mid store old mid new k v c.add_value-first.result c.replace_value.result c.add_value-first.ensures.puts idle c.replace_value.ensures.puts beneath was unlimited)
          (memory_is_sure store new beneath.memory) none));
    }

pub returns : goal.returns
returns g c =
    let store = g.S.Store in
    let old = c.args.conn.now in
    let new = c.add_value-first.new.conn in
    record {
      puts =
          settled store old new c.args.key.now c.args.value.now c.add_value-first.result c.add_value-first.ensures.puts c.served-2.result c.served-2.ensures.done;
      full =
          settled_full store old new c.add_value-first.result c.add_value-first.ensures.full c.served-2.result c.served-2.ensures.refused
          (λ _ _ _ idle. true≢false (sym (c.is_idle.ensures.1 idle) ∙ c.if-is_idle.false));
    }
