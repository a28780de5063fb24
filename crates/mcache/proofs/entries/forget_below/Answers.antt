-- SPDX-License-Identifier: Apache-2.0
use Rattle.mcache.proofs.CacheWords.{sym, subst, ◌∙◌, arith, AreKeysOf}
use Rattle.std.proofs.lemmas.List.{get_or_default}
use Rattle.mcache.proofs.EntryLists.{gone_more, none_below}
use Rattle.mcache.proofs.entries.forget_below.Goals as goal

pub loop-bytes-preserved : goal.loop-bytes-preserved
loop-bytes-preserved c =
    let was = c.loop-bytes.invariant in
    let keys = c.deref-bytes-items.result.now in
    record {
      kept = λ e at. was.kept e (c.forget.ensures.kept e at);
      gone = gone_more c.loop-bytes.entries.entries c.forget.new.entries.entries keys c.loop-bytes.bytes-index c.bytes-item.result (λ d. get_or_default keys c.loop-bytes.bytes-index d c.bytes-item.result c.loop-bytes-test.true ∙ sym c.bytes-item.is) c.forget.ensures.kept (λ e at same. c.forget.ensures.gone e at (same ∙ sym c.deref.ensures.value)) was.gone;
      cap = c.forget.ensures.cap ∙ was.cap;
    }

pub returns-clause-gone : goal.returns-clause-gone
returns-clause-gone c =
    let was = c.loop-bytes.invariant in
    let keys = c.deref-bytes-items.result.now in
    none_below c.loop-bytes.entries.entries c.args.entries.now.entries c.args.key.now keys c.loop-bytes.bytes-index (omega arith) (subst (λ l. AreKeysOf c.args.entries.now.entries c.args.key.now l) (sym c.deref-bytes-items.ensures.value) c.in-Ok.ensures) was.kept was.gone
