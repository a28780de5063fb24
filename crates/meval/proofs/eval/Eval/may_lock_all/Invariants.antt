-- SPDX-License-Identifier: Apache-2.0
use Rattle.std.proofs.Common.{◌≡◌, drop}
use Rattle.std.specs.List.{list_all}
use Rattle.mmeaning.specs.Shared.{may_lock}
use Rattle.meval.specs.Evaluates.{standing_of}
use Rattle.meval.proofs.eval.Eval.may_lock_all.Given as goal

abbrev pub invariant-loop-lockable : goal.invariant-loop-lockable
invariant-loop-lockable g l =
    list_all (may_lock (standing_of l.self).settings (standing_of l.self).account) (drop l.lockable-index l.all)
    ≡ list_all (may_lock (standing_of l.self).settings (standing_of l.self).account) l.all
