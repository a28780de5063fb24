-- SPDX-License-Identifier: Apache-2.0
use Rattle.mcommand.proofs.CommandLaws.{sym, subst, MayTake, does_then, does_stopped}
use Rattle.mcommand.proofs.parts.Parts.locking_names.Goals as goal

pub returns-in_err-timeout : goal.returns-in_err-timeout
returns-in_err-timeout g c = does_stopped _ c.in_err-timeout.ensures c.from_residual.ensures

pub carry-requires : goal.carry-requires
carry-requires g c = subst (λ b. MayTake b c.args.names.now) (sym c.in_ok-timeout.ensures.keeps.eval.same) c.requires

pub returns-in_err-carried : goal.returns-in_err-carried
returns-in_err-carried g c = does_then _ c.in_ok-timeout.ensures (does_stopped _ c.in_err-carried.ensures.does c.from_residual-in_err-carried.ensures)

pub returns : goal.returns
returns g c = does_then _ c.in_ok-timeout.ensures (does_then _ c.in_ok-carried.ensures.does c.tell.ensures)
