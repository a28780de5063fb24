-- SPDX-License-Identifier: Apache-2.0
use Rattle.meval.proofs.eval.Eval.status.Goals as goal

pub returns-in-Node : goal.returns-in-Node
returns-in-Node g c = rw c.in-Node.is c.node_status.ensures
