-- SPDX-License-Identifier: Apache-2.0
use Rattle.mtext.proofs.TextWords.{ap, arith, count_by, is_byte, take_all}
use Rattle.mtext.proofs.CharacterPieces.{pieces_counted, behind_delimiter}
use Rattle.mtext.proofs.by_character.skip.Goals as goal

pub returns-then-left-eq1-clause-behind : goal.returns-then-left-eq1-clause-behind
returns-then-left-eq1-clause-behind c =
    behind_delimiter c.args.character c.args.text.now c.loop-at.at c.args.count (omega arith) c.if-text-at.true (omega arith)

pub returns-clause-missing : goal.returns-clause-missing
returns-clause-missing c =
    let all = ap (count_by (is_byte c.args.character)) (take_all c.loop-at.at c.args.text.now (omega arith)) in
    omega (arith, all, pieces_counted c.args.character c.args.text.now)
