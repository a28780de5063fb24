-- SPDX-License-Identifier: Apache-2.0
use Rattle.mlocal.proofs.LocalWords.{◌∙◌, stays}
use Rattle.mlocal.proofs.Rests.{none_kept}
use Rattle.mlocal.proofs.rest.Rest.keep_spared.Goals as goal

pub returns-in_default : goal.returns-in_default
returns-in_default c = c.self.view_is ∙ none_kept (λ t. t.value) c.self.inside.table _ c.in_default.is c.self.view_is (stays c.args.names.now c.args.above.now)
