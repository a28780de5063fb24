-- SPDX-License-Identifier: Apache-2.0
use Rattle.mtext.proofs.TextWords.{Some, delimiter_text}
use Rattle.mtext.proofs.PieceSteps.{end_found}
use Rattle.mtext.proofs.FoundPlaces.{in_rest}
use Rattle.mtext.proofs.cutting.end_of.Goals as goal

pub returns-in-Some-clause-end : goal.returns-in-Some-clause-end
returns-in-Some-clause-end c =
    end_found (delimiter_text c.args.delimiter.now) c.args.text.now c.args.count c.in-Ok.at c.in-Some.before c.requires c.in-Ok.ensures.behind
    (in_rest c.args.text.now (delimiter_text c.args.delimiter.now) c.in-Ok.at (Some c.in-Some.before) c.in-Some.ensures)
