-- SPDX-License-Identifier: Apache-2.0
use Rattle.mlocal.proofs.LocalWords.{◌∙◌, not, is_among}
use Rattle.mlocal.proofs.Rests.{none_kept}
use Rattle.mlocal.proofs.rest.Rest.drop_names.Goals as goal

pub returns-in_default : goal.returns-in_default
returns-in_default c = c.self.view_is ∙ none_kept (λ t. t.value) c.self.inside.table _ c.in_default.is c.self.view_is (λ n. not (is_among c.args.names.now n))
