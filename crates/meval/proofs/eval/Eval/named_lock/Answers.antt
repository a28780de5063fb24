-- SPDX-License-Identifier: Apache-2.0
use Rattle.meval.proofs.eval.Eval.named_lock.Goals as goal

pub returns-in-Local-clause-does : goal.returns-in-Local-clause-does
returns-in-Local-clause-does g c = rw c.in-Local.is c.local_lock.ensures.does

pub returns-in-Global-clause-does : goal.returns-in-Global-clause-does
returns-in-Global-clause-does g c = rw c.in-Global.is c.global_lock.ensures.does
