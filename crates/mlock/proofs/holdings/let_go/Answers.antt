-- SPDX-License-Identifier: Apache-2.0
use Rattle.mlock.proofs.LockWords.{◌≡◌, None, ap, sym, subst, ◌∙◌, unwrap_or, Updates, LockName, Holding, name_eq}
use Rattle.mlock.proofs.Moves.{one_there, kept_gone, gone_locks}
use Rattle.mlock.proofs.holdings.let_go.Goals as goal

pub take_off_above-requires : goal.take_off_above-requires
take_off_above-requires c = one_there c.args.holdings.now c.args.below.now c.args.index (c.in-Some.name, c.in-Some.holding) c.requires.kept (sym c.in-Some.ensures.entry)

pub returns-in-Some-clause-kept : goal.returns-in-Some-clause-kept
returns-in-Some-clause-kept c =
    kept_gone c.args.holdings.now c.swap_remove_index.new.self c.args.below.now c.take_off_above.new.below c.args.index (c.in-Some.name, c.in-Some.holding) c.requires.kept (sym c.in-Some.ensures.entry)
    c.in-Some.ensures.entries c.in-Some.ensures.unique c.take_off_above.ensures

pub returns-in-Some-clause-removed : goal.returns-in-Some-clause-removed
returns-in-Some-clause-removed c n h at =
    let e : LockName × Holding = (c.in-Some.name, c.in-Some.holding) in
    let same : e ≡ (n, h) = ap (λ o. unwrap_or o e) (c.in-Some.ensures.entry ∙ at) in
    gone_locks c.args.holdings.now c.args.index n h c.requires.kept.unique at c.swap_remove_index.new.self c.in-Some.ensures.unique
    (subst (λ k. Updates name_eq c.args.holdings.now c.swap_remove_index.new.self k None) (ap (λ p. p.0) same) c.in-Some.ensures.updates)
