-- SPDX-License-Identifier: Apache-2.0
use Rattle.mlock.proofs.LockWords.{◌≡◌, subst, IfOk, held, has_conflict}

pub returns : Rattle.mlock.proofs.locks.Locks.has_conflict.Goals.returns
returns c =
    subst (λ l. IfOk c.conflicts.result (λ b. b ≡ has_conflict l (held c.args.terminal c.args.name.now))) c.self.view_is c.conflicts.ensures
