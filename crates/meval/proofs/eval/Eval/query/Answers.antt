-- SPDX-License-Identifier: Apache-2.0
use Rattle.meval.proofs.eval.Eval.query.Goals as goal

pub returns-in-Local : goal.returns-in-Local
returns-in-Local g c =
    let found = rw (c.as_slice.ensures, c.as_name.ensures) at c.local_query.ensures in
    rw c.in-Local.is found

pub returns-in-Node : goal.returns-in-Node
returns-in-Node g c = rw c.in-Node.is c.node_query.ensures
