-- SPDX-License-Identifier: Apache-2.0
use Rattle.mcommand.proofs.CommandLaws.{refl}
use Rattle.mcommand.proofs.Locking.{does_release}
use Rattle.mcommand.proofs.parts.Parts.release.Goals as goal

pub returns-clause-does : goal.returns-clause-does
returns-clause-does g c = does_release _ refl c.release_all.ensures
