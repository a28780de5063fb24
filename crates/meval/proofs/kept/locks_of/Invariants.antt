-- SPDX-License-Identifier: Apache-2.0
use Rattle.std.proofs.Common.{◌≡◌, ◌++◌, drop}
use Rattle.meval.proofs.kept.locks_of.Given as goal

abbrev pub invariant-loop-lockable : goal.invariant-loop-lockable
invariant-loop-lockable l = l.names.items ++ drop l.lockable-index l.all ≡ l.all
