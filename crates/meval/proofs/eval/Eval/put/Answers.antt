-- SPDX-License-Identifier: Apache-2.0
use Rattle.meval.proofs.eval.Eval.put.Goals as goal

pub returns-in-Local : goal.returns-in-Local
returns-in-Local g c =
    let does = rw (c.as_name.ensures, c.as_slice.ensures.texts) at c.set_local.ensures in
    rw c.in-Local.is does

pub returns-in_ok-text-in-Node : goal.returns-in_ok-text-in-Node
returns-in_ok-text-in-Node g c =
    let does = rw c.in_ok-text-in-Node.ensures at c.put_node.ensures in
    rw c.in-Node.is does
