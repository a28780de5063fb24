-- SPDX-License-Identifier: Apache-2.0
use Rattle.mlocal.proofs.Rests.{none_got}
use Rattle.mlocal.proofs.rest.Rest.get.Goals as goal

pub returns-in-None : goal.returns-in-None
returns-in-None c = none_got (λ t. t.value) c.self.inside.table _ c.in-None.is c.self.view_is c.args.name.now
