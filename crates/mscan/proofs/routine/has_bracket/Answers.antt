-- SPDX-License-Identifier: Apache-2.0
use Rattle.std.proofs.Common.{List, Option, ℕ, sym, ap, ◌∙◌, true, option_map, Bor}
use Rattle.mgrammar.specs.ReadingWords.{past}
use Rattle.mgrammar.specs.RoutineLine.{label_at}
use Rattle.mscan.proofs.WithoutFormals.{none_mapped, unbracketed, unlabelled}
use Rattle.mscan.proofs.routine.has_bracket.Goals as goal

pub returns-in-None-default : goal.returns-in-None-default
returns-in-None-default c = λ _.
    let l = label_at true c.args.line.now in
    unlabelled l.0 l.1 (sym (ap (λ (x : Option (List ℕ) × List ℕ). x.0) c.label.ensures.label) ∙ ap
    (option_map (λ (x : Bor (List ℕ)). x.now)) c.in-None-default.is-0)

pub returns-in-Some-default : goal.returns-in-Some-default
returns-in-Some-default c = λ e.
    let l = label_at true c.args.line.now in
    unbracketed l.0 l.1
    (ap (past 40) (sym (ap (λ (x : Option (List ℕ) × List ℕ). x.1) c.label.ensures.label)) ∙ sym c.past.ensures ∙ none_mapped
    (λ (x : Bor (List ℕ)). x.now) c.past.result (sym c.is_some.ensures ∙ e))
