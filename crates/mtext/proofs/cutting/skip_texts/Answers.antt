-- SPDX-License-Identifier: Apache-2.0
use Rattle.mtext.proofs.TextWords.{◌+◌, sym, length, Some, subst, IsBehind}
use Rattle.mtext.proofs.PieceSteps.{behind_more}
use Rattle.mtext.proofs.FoundPlaces.{in_rest}
use Rattle.mtext.proofs.cutting.skip_texts.Goals as goal

pub loop-passed-preserved : goal.loop-passed-preserved
loop-passed-preserved c =
    subst (λ needle. IsBehind c.args.finder.now c.args.text.now (c.loop-passed.passed + 1) (c.loop-passed.at + (c.in-Some.before + length needle))) (sym c.needle.ensures)
    (behind_more c.args.finder.now c.args.text.now c.loop-passed.passed c.loop-passed.at c.in-Some.before c.requires c.loop-passed.invariant
    (in_rest c.args.text.now c.args.finder.now c.loop-passed.at (Some c.in-Some.before) c.in-Some.ensures))
