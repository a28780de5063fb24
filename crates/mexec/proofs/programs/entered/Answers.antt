-- SPDX-License-Identifier: Apache-2.0
use Rattle.mmeaning.proofs.Yieldings.{yields_then, yields_stopped, yields_gives}
use Rattle.mexec.proofs.ExecLaws.{refl}
use Rattle.mexec.proofs.programs.entered.Goals as goal

pub returns-in_err-bindings : goal.returns-in_err-bindings
returns-in_err-bindings c = λ x w. yields_stopped _ c.in_err-bindings.ensures c.from_residual.ensures

pub returns : goal.returns
returns c = λ x w. yields_then _ c.in_ok-bindings.ensures (yields_gives _ _ _ refl)
