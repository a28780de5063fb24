-- SPDX-License-Identifier: Apache-2.0
use Rattle.mcommand.proofs.CommandLaws.{refl, does_wanting, does_write}
use Rattle.mcommand.proofs.Characters.{longer_by}
use Rattle.mcommand.proofs.parts.Parts.write_value.Goals as goal

pub returns-in_err-write : goal.returns-in_err-write
returns-in_err-write g c = does_wanting _ _ _ c.from_residual.ensures refl refl refl refl

pub returns : goal.returns
returns g c =
    does_write _ _ _ _ c.in_ok-write.ensures refl refl refl
    (longer_by c.args.self.now.out.now c.write.new.out c.args.value.now _ _ c.len-before.ensures c.len.ensures c.in_ok-write.ensures) c.wrote.ensures
