-- SPDX-License-Identifier: Apache-2.0
use Rattle.meval.proofs.EvalLaws.{refl, evaluates_gives, evaluates_wanting}
use Rattle.meval.proofs.eval.Eval.refer_to.Goals as goal

pub returns-in-Local : goal.returns-in-Local
returns-in-Local g c = rw c.in-Local.is (evaluates_gives tt (λ (u : Unit {0}). u) tt refl)

pub returns-in_err-copy-in-Node : goal.returns-in_err-copy-in-Node
returns-in_err-copy-in-Node g c = evaluates_wanting _ _ _ c.from_residual.ensures

pub returns-in_ok-copy-in-Node : goal.returns-in_ok-copy-in-Node
returns-in_ok-copy-in-Node g c =
    let does = rw c.in_ok-copy-in-Node.ensures at c.refer.ensures.does in
    rw c.in-Node.is does
