-- SPDX-License-Identifier: Apache-2.0
use Rattle.mlocal.proofs.LocalLaws.{◌≡◌, nat_eq, sym, ap, ◌∙◌, slice_get_within, pointwise, same_name, hinted_key, hinted_value}
use Rattle.indexmap.specs.IndexMap.{get}
use Rattle.mlocal.proofs.table.index_of.Goals as goal

pub returns-then-eq-clause-index : goal.returns-then-eq-clause-index
returns-then-eq-clause-index c =
    let es = c.args.variables.now.entries in
    let same : c.in-Some.key.now ≡ c.args.name.now = same_name c.in-Some.key.now c.args.name.now (sym c.eq.ensures ∙ c.if-eq.true) in (
      slice_get_within es c.from-hinted.result (c.in-Some.key.now, c.in-Some.field-0-1.now) (sym c.in-Some.ensures.entry),
      hinted_key es c.from-hinted.result c.in-Some.key.now c.args.name.now c.in-Some.field-0-1.now c.in-Some.ensures.entry same,
      hinted_value es c.from-hinted.result c.in-Some.key.now c.in-Some.field-0-1.now c.in-Some.ensures.entry
          ∙ sym c.in-Some.ensures.value ∙ ap (get (pointwise nat_eq) c.args.variables.now) same,
    )
