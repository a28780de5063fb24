-- SPDX-License-Identifier: Apache-2.0
use Rattle.mnum.proofs.NumWords.{sym, ◌∙◌}
use Rattle.mnum.proofs.Starts.{starts_otherwise}
use Rattle.mnum.proofs.writing.is_canonical_by.Goals as goal

pub returns-then-not-starts_canonical : goal.returns-then-not-starts_canonical
returns-then-not-starts_canonical c = (
  λ impossible. cc,
  λ canonical. absurd (starts_otherwise c.args.kept c.args.text.now c.requires.some_kept (sym c.starts_canonical.ensures ∙ c.if-not-starts_canonical.true) canonical),
)
