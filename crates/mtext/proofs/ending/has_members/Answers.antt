-- SPDX-License-Identifier: Apache-2.0
use Rattle.mtext.proofs.TextWords.{◌≡◌, length, take, sym, ◌∙◌, arith, length-take-le, eq-eqb, is_in_set, eqb-true}
use Rattle.mtext.proofs.PatternEndings.{whole_run, all_from_run}
use Rattle.mtext.proofs.ending.has_members.Goals as goal

pub returns-then-number-text : goal.returns-then-number-text
returns-then-number-text c =
    let p = is_in_set c.args.set in
    let front = take c.args.number c.args.text.now in
    let size : length front ≡ c.args.number = length-take-le c.args.number c.args.text.now (omega arith) in (
      λ is. (omega arith, all_from_run p front (sym c.run.ensures ∙ eqb-true c.run.result c.args.number is ∙ sym size)),
      λ has. eq-eqb c.run.result c.args.number (c.run.ensures ∙ whole_run p front has.1 ∙ size),
    )
