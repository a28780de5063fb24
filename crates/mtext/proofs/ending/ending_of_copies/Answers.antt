-- SPDX-License-Identifier: Apache-2.0
use Rattle.mtext.proofs.TextWords.{length, sym, Decides-eqb, count_of}
use Rattle.mtext.proofs.PatternEndings.{so_many_copies, no_copies, nothing_stands}
use Rattle.mtext.proofs.ending.ending_of_copies.Goals as goal

pub returns-then-is_empty : goal.returns-then-is_empty
returns-then-is_empty c = λ others.
    so_many_copies c.args.string.now (count_of c.args.count) others c.args.text.now c.in-Some.number 0 c.in-Some.ensures.0 c.in-Some.ensures.1
    (nothing_stands c.args.string.now c.args.text.now c.in-Some.number ((Decides-eqb (length c.args.string.now) 0).0 (sym c.if-is_empty.ensures)))

pub returns-in-None : goal.returns-in-None
returns-in-None c = λ others.
    no_copies c.args.string.now (count_of c.args.count) others c.args.text.now c.in-Some.number c.in-Some.ensures.0 c.in-Some.ensures.1 c.in-None.ensures
