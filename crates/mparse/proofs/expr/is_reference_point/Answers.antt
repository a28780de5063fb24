-- SPDX-License-Identifier: Apache-2.0
use Rattle.std.proofs.Common.{◌∙◌, sym}
use Rattle.mparse.proofs.Points.{by_digits}
use Rattle.mparse.proofs.expr.is_reference_point.Goals as goal

pub returns-then-byte-eq46 : goal.returns-then-byte-eq46
returns-then-byte-eq46 c =
    rw c.if-byte-eq46.true (c.is_empty.ensures ∙ by_digits c.args.behind.now c.run.result.0.now (sym c.run.ensures.run))
