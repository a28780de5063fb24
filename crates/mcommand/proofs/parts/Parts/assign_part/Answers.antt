-- SPDX-License-Identifier: Apache-2.0
use Rattle.mcommand.proofs.CommandLaws.{arith, length, does_true, does_false}
use Rattle.std.proofs.lemmas.Bool.{lt-ltb, le-ltb}
use Rattle.mcommand.proofs.parts.Parts.assign_part.Goals as goal

pub returns-then-values-gt2 : goal.returns-then-values-gt2
returns-then-values-gt2 g c = rw c.in-Piece.is (does_true _ _ _ (lt-ltb 2 (length c.args.values.now) (omega (arith, c.if-values-gt2.true))) c.assign_pieces.ensures)

pub returns-else-values-gt2 : goal.returns-else-values-gt2
returns-else-values-gt2 g c = rw c.in-Piece.is (does_false _ _ _ (le-ltb 2 (length c.args.values.now) (omega (arith, c.if-values-gt2.false))) c.assign_piece.ensures)

pub returns-in-Extract : goal.returns-in-Extract
returns-in-Extract g c = rw c.in-Extract.is c.assign_characters.ensures
