-- SPDX-License-Identifier: Apache-2.0
use Rattle.meval.proofs.eval.Eval.lockable.Goals as goal

pub returns-in-Local : goal.returns-in-Local
returns-in-Local g c = rw c.in-Local.is c.own_lockable.ensures

pub returns-in-Global : goal.returns-in-Global
returns-in-Global g c = rw c.in-Global.is c.global_lockable.ensures
