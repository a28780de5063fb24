-- SPDX-License-Identifier: Apache-2.0
use Rattle.mstore.proofs.Words.{◌≡◌, IsTrue, sym, ◌∙◌, inl, rules, state, doubt_of, IsBlank, IsCalm}
use Rattle.mstore.proofs.Doubting.{open_if, sure_before}
use Rattle.mstore.proofs.Tied.{on_ok}
use Rattle.mstore.proofs.opening.open_tables.Goals as goal

pub returns-then-is_store : goal.returns-then-is_store
returns-then-is_store g c =
    let old = c.args.conn.now in
    let outside : IsTrue c.is_autocommit.result = search rules in
    let live = c.schema-schema.ensures.live in
    let schema_is = sym c.schema-schema.ensures.value ∙ c.is_store.ensures.0 c.if-is_store.true in
    let calm : doubt_of g.S.Store c.settle_tables.new.conn ≡ 0 → IsCalm (state g.S.Store old) = λ sure. record {
      idle = record { autocommit = search rules; settled = c.is_autocommit.ensures.settled outside (open_if (state g.S.Store old) (sure_before sure c.settle_tables.ensures.order)) };
      schema_is = schema_is;
    } in
    record {
      order = c.settle_tables.ensures.order;
      store = λ sure. c.settle_tables.ensures.store sure live (calm sure);
      opened = λ sure. c.settle_tables.ensures.opened sure live (calm sure);
      untouched = λ sure. c.settle_tables.ensures.untouched sure live (calm sure);
      version = λ sure bad. c.settle_tables.ensures.version sure live (calm sure) bad;
      key = λ sure bad. (schema_is, c.settle_tables.ensures.key sure live (calm sure) bad);
    }

pub returns-then-is_blank : goal.returns-then-is_blank
returns-then-is_blank g c =
    let old = c.args.conn.now in
    let outside : IsTrue c.is_autocommit.result = search rules in
    let blank : doubt_of g.S.Store c.make_tables.new.conn ≡ 0 → IsBlank (state g.S.Store old) = λ sure. record {
      idle = record { autocommit = search rules; settled = c.is_autocommit.ensures.settled outside (open_if (state g.S.Store old) (sure_before sure c.make_tables.ensures.order)) };
      schema_is = sym c.schema-schema.ensures.value ∙ c.is_blank.ensures.0 c.if-is_blank.true;
    } in
    record {
      order = c.make_tables.ensures.order;
      store = λ sure. c.make_tables.ensures.store sure (blank sure);
      opened = λ sure. on_ok c.make_tables.result (λ made. inl (blank sure, made)) (c.make_tables.ensures.made sure (blank sure));
      untouched = λ sure. c.make_tables.ensures.untouched sure (blank sure).idle;
      version = λ sure bad. absurd (c.make_tables.ensures.version bad);
      key = λ sure bad. absurd (c.make_tables.ensures.key bad);
    }
