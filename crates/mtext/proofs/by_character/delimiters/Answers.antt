-- SPDX-License-Identifier: Apache-2.0
use Rattle.mtext.proofs.TextWords.{ap, arith, count_by, is_byte, take_all}
use Rattle.mtext.proofs.CharacterPieces.{pieces_counted}
use Rattle.mtext.proofs.by_character.delimiters.Goals as goal

pub returns-clause-count : goal.returns-clause-count
returns-clause-count c =
    let all = ap (count_by (is_byte c.args.character)) (take_all c.loop-at.at c.args.text.now (omega arith)) in
    omega (arith, all, pieces_counted c.args.character c.args.text.now)
