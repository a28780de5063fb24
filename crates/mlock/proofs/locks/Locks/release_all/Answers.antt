-- SPDX-License-Identifier: Apache-2.0
use Rattle.mlock.proofs.LockWords.{ap, sym, subst, ◌∙◌, released, locks_of, AreCounts}
use Rattle.mlock.proofs.Views.{counts_released}
use Rattle.mlock.proofs.locks.Locks.release_all.Goals as goal

pub invariant_of-self : goal.invariant_of-self
invariant_of-self c = (c.release.ensures.kept, subst AreCounts (sym c.release.ensures.released) (counts_released (locks_of c.self.inside.holdings) c.args.terminal c.self.invariant.1))

pub returns : goal.returns
returns c = c.release.ensures.released ∙ ap (λ l. released l c.args.terminal) c.self.view_is
