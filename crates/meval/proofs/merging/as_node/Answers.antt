-- SPDX-License-Identifier: Apache-2.0
use Rattle.meval.proofs.EvalWords.{◌≡◌, true, false, refl, subscripts_test}
use Rattle.meval.proofs.merging.as_node.Goals as goal

pub unreachable-requires : goal.unreachable-requires
unreachable-requires c =
    let told = rw (c.in_ok-copies.ensures, subscripts_test c.args.values.now c.requires, c.in-None.is) at c.new.ensures.when in
    let clash : false ≡ true = told.1 refl in
    absurd (cc)
