-- SPDX-License-Identifier: Apache-2.0
use Rattle.meval.proofs.Asking.{key_checked, not_error}
use Rattle.meval.proofs.global_reference.key_with.Goals as goal

pub returns-in-Ok-clause-checked : goal.returns-in-Ok-clause-checked
returns-in-Ok-clause-checked c = key_checked _ _ (λ none. not_error (c.in-Ok.ensures.sub.1 none))
