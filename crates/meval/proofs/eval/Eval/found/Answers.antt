-- SPDX-License-Identifier: Apache-2.0
use Rattle.meval.proofs.EvalWords.{residual_is}
use Rattle.meval.proofs.eval.Eval.found.Goals as goal

pub returns-in_err-text-in-Node : goal.returns-in_err-text-in-Node
returns-in_err-text-in-Node g c = rw (c.in-Node.is, residual_is _ _ c.from_residual-in_err-text-in-Node.ensures) c.in_err-text-in-Node.ensures

pub returns-in-Some-2 : goal.returns-in-Some-2
returns-in-Some-2 g c =
    let found = rw c.in-Some-2.is at c.in_ok-text-in-Node.ensures in
    rw (c.in-Node.is, c.of_text.ensures) found

pub returns-in-None-2 : goal.returns-in-None-2
returns-in-None-2 g c =
    let found = rw c.in-None-2.is at c.in_ok-text-in-Node.ensures in
    rw c.in-Node.is found
