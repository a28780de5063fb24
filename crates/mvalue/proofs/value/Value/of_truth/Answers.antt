-- SPDX-License-Identifier: Apache-2.0
use Rattle.mvalue.proofs.ValueWords.{◌∙◌}
use Rattle.mvalue.proofs.Numbers.{one_text, zero_text}
use Rattle.mvalue.proofs.value.Value.of_truth.Goals as goal

pub returns-then-is_true : goal.returns-then-is_true
returns-then-is_true c = rw c.if-is_true.true (c.of_whole.ensures ∙ one_text)

pub returns-else-is_true : goal.returns-else-is_true
returns-else-is_true c = rw c.if-is_true.false (c.of_whole-else-is_true.ensures ∙ zero_text)
