-- SPDX-License-Identifier: Apache-2.0
use Rattle.mstore.proofs.Words.{sym, subst}
use Rattle.mstore.specs.Stretch.{IsStretch}
use Rattle.mstore.proofs.Stretches.{stretch_is}
use Rattle.mstore.proofs.stretch.Stretch.set.Goals as goal

pub returns : goal.returns
returns c m first =
    let end = rw c.as_slice.ensures.value at c.in_ok-end.ensures in
    let begin = c.in_ok-begin.ensures in
    subst (λ l. IsStretch m l c.in_ok-end.end.items c.args.rows.items) (sym begin)
    (subst (λ h. IsStretch m c.args.low.now h c.args.rows.items) (sym end) (stretch_is m c.args.low.now c.args.high.now c.args.most c.args.rows.items first))
