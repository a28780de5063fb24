-- SPDX-License-Identifier: Apache-2.0
use Rattle.mcommand.proofs.CommandWords.{sym, ◌∙◌}
use Rattle.mcommand.proofs.Labels.{other_label}
use Rattle.mcommand.proofs.target.has_label.Goals as goal

pub returns-then-begin_apart : goal.returns-then-begin_apart
returns-then-begin_apart c = sym (other_label _ _ _ (sym c.begin_apart.ensures ∙ c.if-begin_apart.true))
