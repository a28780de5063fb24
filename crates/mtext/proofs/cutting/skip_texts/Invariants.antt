-- SPDX-License-Identifier: Apache-2.0
use Rattle.mtext.proofs.TextWords.{IsBehind}
use Rattle.mtext.proofs.cutting.skip_texts.Given as goal

abbrev pub invariant-loop-passed : goal.invariant-loop-passed
invariant-loop-passed l = IsBehind l.finder l.text l.passed l.at
