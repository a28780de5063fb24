-- SPDX-License-Identifier: Apache-2.0
use Rattle.mtext.proofs.TextWords.{arith, Some, subst, sym, length, ◌+◌, ap, IsBehind}
use Rattle.mtext.proofs.PieceSteps.{behind_more, some_characters}
use Rattle.mtext.proofs.FoundPlaces.{in_rest}
use Rattle.mtext.proofs.cutting.delimiters.Goals as goal

pub loop-before-preserved : goal.loop-before-preserved
loop-before-preserved c =
    let d = c.args.finder.now in
    let some = some_characters d c.requires in
    let same = ap length c.needle.ensures in
    record {
      behind = subst (λ needle. IsBehind d c.args.text.now (c.loop-before.passed + 1) (c.loop-before.at + (c.in-Some.before + length needle))) (sym c.needle.ensures)
          (behind_more d c.args.text.now c.loop-before.passed c.loop-before.at c.in-Some.before c.requires c.loop-before.invariant.behind
          (in_rest c.args.text.now d c.loop-before.at (Some c.in-Some.before) c.in-Some.ensures));
      few = omega arith;
    }
