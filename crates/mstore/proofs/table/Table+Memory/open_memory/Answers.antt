-- SPDX-License-Identifier: Apache-2.0
use Rattle.mstore.proofs.Words.{IsTrue, true, refl, sym, ap, subst, ◌∙◌, rules, state, no_doubt, over_memory, IsBlank, IsBare}
use Rattle.mstore.specs.Room.{AreUpTo}
use Rattle.mstore.proofs.Doubting.{memory_is_sure}
use Rattle.mstore.proofs.Makes.{bare_is_empty, blank_from, memory_is, memory_is_faultless}
use Rattle.mstore.proofs.Rooms.{unlimited_store}
use Rattle.mstore.proofs.table.Table+Memory.open_memory.Goals as goal

pub invariant_of-result : goal.invariant_of-result
invariant_of-result c =
    let no_tables : IsTrue c.is_blank.result = search rules in
    let blank : IsBlank (state over_memory c.in-Ok.conn) = blank_from _ (c.in-Ok.ensures.opens (no_doubt true refl)).0 (sym c.schema.ensures.value ∙ c.is_blank.ensures.0 no_tables) in (
      λ alone sure. unlimited_store over_memory c.make_tables.new.conn c.set_step_limit.new.self c.set_step_limit.ensures (λ sure. c.in_ok-make_tables.ensures.store sure blank) sure,
      ap (λ h. h.step_limit) c.set_step_limit.ensures,
      λ alone sure less.
          let made : IsBare (state over_memory c.make_tables.new.conn).now = c.in_ok-make_tables.ensures.made (memory_is_sure over_memory c.make_tables.new.conn memory_is) blank in
          subst (AreUpTo 0) (sym (subst (λ h. IsBare (state over_memory h).now) (sym c.set_step_limit.ensures) made).empty) (λ r h. absurd h),
      λ alone sure. c.new-stretch.ensures _,
    )

pub returns-clause-empty : goal.returns-clause-empty
returns-clause-empty c =
    let no_tables : IsTrue c.is_blank.result = search rules in
    let blank : IsBlank (state over_memory c.in-Ok.conn) = blank_from _ (c.in-Ok.ensures.opens (no_doubt true refl)).0 (sym c.schema.ensures.value ∙ c.is_blank.ensures.0 no_tables) in
    let made : IsBare (state over_memory c.make_tables.new.conn).now = c.in_ok-make_tables.ensures.made (memory_is_sure over_memory c.make_tables.new.conn memory_is) blank in
    bare_is_empty (state over_memory c.set_step_limit.new.self) (subst (λ h. IsBare (state over_memory h).now) (sym c.set_step_limit.ensures) made)

pub returns-clause-version : goal.returns-clause-version
returns-clause-version c =
    let no_tables : IsTrue c.is_blank.result = search rules in
    let blank : IsBlank (state over_memory c.in-Ok.conn) = blank_from _ (c.in-Ok.ensures.opens (no_doubt true refl)).0 (sym c.schema.ensures.value ∙ c.is_blank.ensures.0 no_tables) in
    let made : IsBare (state over_memory c.make_tables.new.conn).now = c.in_ok-make_tables.ensures.made (memory_is_sure over_memory c.make_tables.new.conn memory_is) blank in
    (subst (λ h. IsBare (state over_memory h).now) (sym c.set_step_limit.ensures) made).version

pub returns-clause-sound : goal.returns-clause-sound
returns-clause-sound c = memory_is

pub returns-clause-steady : goal.returns-clause-steady
returns-clause-steady c = memory_is_faultless

pub returns-clause-sure : goal.returns-clause-sure
returns-clause-sure c = memory_is_sure over_memory c.set_step_limit.new.self memory_is
