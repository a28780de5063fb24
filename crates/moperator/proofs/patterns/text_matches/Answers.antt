-- SPDX-License-Identifier: Apache-2.0
use Rattle.moperator.proofs.OperatorWords.{drop, subst, sym, arith, length-drop, true≢false, IsFirstOf, pattern_of}
use Rattle.moperator.proofs.PatternWalk.{below_end, at_first, none_first, in_general, at_end}
use Rattle.moperator.proofs.patterns.text_matches.Goals as goal

pub returns-in-Nowhere : goal.returns-in-Nowhere
returns-in-Nowhere c =
    let atoms = pattern_of c.args.atoms.now in
    let passed = c.loop-next.passed in
    let first = subst (λ next. IsFirstOf next (drop passed atoms)) c.in-Some.is c.loop-next.invariant.first in (
      λ t. absurd (true≢false (sym t)),
      λ m. absurd (none_first atoms passed c.in-Some.atom c.lent_atom-next-in-Some.result c.args.text.now c.loop-next.at first c.lent_atom-next-in-Some.ensures c.in-Nowhere.ensures
          (c.loop-next.invariant.same.0 m)),
    )

pub returns-in-Open : goal.returns-in-Open
returns-in-Open c =
    in_general c.args.atoms.now c.loop-next.passed c.args.text.now c.loop-next.at c.general_match.result c.loop-next.invariant.same c.general_match.ensures

pub loop-next-preserved : goal.loop-next-preserved
loop-next-preserved c =
    let atoms = pattern_of c.args.atoms.now in
    let passed = c.loop-next.passed in
    let first = subst (λ next. IsFirstOf next (drop passed atoms)) c.in-Some.is c.loop-next.invariant.first in
    let step = at_first atoms passed c.in-Some.atom c.lent_atom-next-in-Some.result c.args.text.now c.loop-next.at c.in-Behind.length first c.lent_atom-next-in-Some.ensures
    c.in-Behind.ensures in
    record {
      within = omega (arith, step.0, length-drop c.loop-next.at c.args.text.now);
      count = omega (arith, below_end c.args.atoms.now passed c.in-Some.atom first);
      first = c.lent_atom-next-in-Some.ensures;
      same = (λ m. step.1.0 (c.loop-next.invariant.same.0 m), λ m. c.loop-next.invariant.same.1 (step.1.1 m));
    }

pub returns : goal.returns
returns c =
    let atoms = pattern_of c.args.atoms.now in
    let none = subst (λ next. IsFirstOf next (drop c.loop-next.passed atoms)) c.in_default.is c.loop-next.invariant.first in
    at_end atoms c.loop-next.passed c.args.text.now c.loop-next.at c.loop-next.invariant.within none c.loop-next.invariant.same
