-- SPDX-License-Identifier: Apache-2.0
use Rattle.mexec.proofs.ExecLaws.{None, ◌∙◌, ap, sym, refl, arith, none_left, at_gives, at_plain, passes_line, passing_failed, stops_at}
use Rattle.mmeaning.specs.Calls.{Standing}
use Rattle.mexec.proofs.levels.reached.Goals as goal

pub returns-then-line_dots-dots-clause-does : goal.returns-then-line_dots-dots-clause-does
returns-then-line_dots-dots-clause-does g c =
    let language = c.language-language.ensures.language ∙ ap (λ (b : Standing). b.given.language) (sym c.loop-at.invariant.same) in
    let few = rw (c.dots_of-line_dots.ensures, c.as_bytes.ensures.bytes, language) at c.if-line_dots-dots.true in
    rw (c.place_where.ensures, c.dots_of-line_dots.ensures, c.as_bytes.ensures.bytes, language)
    (c.loop-at.invariant.leads _ _ (stops_at c.args.dots c.loop-at.at c.args.lines.now c.index-lines-at.result c.loop-at-test.true c.index-lines-at.is few))

pub returns-in_err-charge-clause-does : goal.returns-in_err-charge-clause-does
returns-in_err-charge-clause-does g c =
    let language = c.language-language.ensures.language ∙ ap (λ (b : Standing). b.given.language) (sym c.loop-at.invariant.same) in
    let many = rw (c.dots_of-line_dots.ensures, c.as_bytes.ensures.bytes, language) at c.if-line_dots-dots.false in
    c.loop-at.invariant.leads _ _ (passing_failed c.args.dots c.loop-at.at c.args.lines.now c.index-lines-at.result c.loop-at-test.true c.index-lines-at.is many (at_plain c.in_err-charge.ensures.does) c.from_residual.ensures)

pub loop-at-preserved : goal.loop-at-preserved
loop-at-preserved g c =
    let language = c.language-language.ensures.language ∙ ap (λ (b : Standing). b.given.language) (sym c.loop-at.invariant.same) in
    let many = rw (c.dots_of-line_dots.ensures, c.as_bytes.ensures.bytes, language) at c.if-line_dots-dots.false in
    record { same = c.in_ok-charge.ensures.does.keeps.same ∙ c.loop-at.invariant.same; leads = λ r p k. c.loop-at.invariant.leads r p (passes_line c.args.dots c.loop-at.at c.args.lines.now c.index-lines-at.result c.loop-at-test.true c.index-lines-at.is many (at_plain c.in_ok-charge.ensures.does) k) }

pub returns-clause-does : goal.returns-clause-does
returns-clause-does g c =
    let leads = rw (none_left c.loop-at.at c.args.lines.now c.loop-at-test.false) at c.loop-at.invariant.leads in
    leads _ _ (at_gives None (λ found. found) None refl)
