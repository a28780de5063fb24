-- SPDX-License-Identifier: Apache-2.0
use Rattle.mstore.proofs.Words.{sym, ◌∙◌}
use Rattle.mstore.proofs.Stretches.{if_ok}
use Rattle.mstore.proofs.stretch.Stretch.take.Goals as goal

pub returns-then-bytes-gt-MOST_BYTES : goal.returns-then-bytes-gt-MOST_BYTES
returns-then-bytes-gt-MOST_BYTES c m first = c.clear.ensures m

pub returns-then-is_ok : goal.returns-then-is_ok
returns-then-is_ok c m first = if_ok _ c.set-set.result (sym c.is_ok.ensures.value ∙ c.if-is_ok.true) (c.set-set.ensures m first)

pub returns : goal.returns
returns c m first = c.clear-2.ensures m
