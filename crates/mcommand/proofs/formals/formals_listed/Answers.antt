-- SPDX-License-Identifier: Apache-2.0
use Rattle.mcommand.proofs.CommandLaws.{sym}
use Rattle.mcommand.proofs.formals.formals_listed.Goals as goal

pub returns : goal.returns
returns c = rw (sym c.in_ok-names.ensures) c.formals_lent.ensures
