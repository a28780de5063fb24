-- SPDX-License-Identifier: Apache-2.0
use Rattle.mmeaning.proofs.Yieldings.{yields_then, yields_stopped, yields_gives}
use Rattle.mexec.proofs.ExecLaws.{refl}
use Rattle.mexec.specs.declared.programs.Pause.TheVariants as pause
use Rattle.mexec.proofs.programs.called.Goals as goal

pub returns-in_err-test : goal.returns-in_err-test
returns-in_err-test c = λ w. yields_stopped _ c.in_err-test.ensures c.from_residual.ensures

pub returns : goal.returns
returns c = λ w. yields_then _ c.in_ok-test.ensures (yields_gives _ _ _ refl)
