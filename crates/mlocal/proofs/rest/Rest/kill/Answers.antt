-- SPDX-License-Identifier: Apache-2.0
use Rattle.mlocal.proofs.LocalWords.{◌∙◌}
use Rattle.mlocal.proofs.Rests.{none_killed}
use Rattle.mlocal.proofs.rest.Rest.kill.Goals as goal

pub returns-in_default-clause-ok : goal.returns-in_default-clause-ok
returns-in_default-clause-ok c =
    c.self.view_is ∙ none_killed (λ t. t.value) c.self.inside.table _ c.in_default.is c.self.view_is c.args.name.now c.args.key.now
