-- SPDX-License-Identifier: Apache-2.0
use Rattle.mlock.proofs.LockWords.{◌≡◌, ◌-◌, ◌<◌, ◌≤◌, ℕ, Some, ap, sym, ◌∙◌, subst, slice_get, insert, remove, slice_get_within, IndexMap, IsUnique, LockName}
use Rattle.mlock.proofs.LockWords.{held, given_back, Holding, locks_of, AreCounts, name_eq}
use Rattle.mlock.proofs.Moves.{there, kept_recounted}
use Rattle.mlock.proofs.Steps.{get_other, get_none, give_none, less_own, last_own, counts_given_back}
use Rattle.mlock.proofs.locks.Locks.give_back.Goals as goal

module _ {S : Type 0} (m : IndexMap LockName Holding S) (unique : IsUnique name_eq m) (name : LockName) (t : ℕ) (i : ℕ) (h : Holding) (at : slice_get m.entries i ≡ Some (name, h)) (own : h.terminal ≡ t) where
  less_is : 1 < h.count → insert (locks_of m) (held t name) (h.count - 1) ≡ given_back (locks_of m) t name
  less_is = less_own m unique name t h (sym (there m i name h unique at)) own

  last_is : h.count ≤ 1 → remove (locks_of m) (held h.terminal name) ≡ given_back (locks_of m) t name
  last_is last = ap (λ u. remove (locks_of m) (held u name)) own ∙ last_own m unique name t h (sym (there m i name h unique at)) own last

pub returns-in_default : goal.returns-in_default
returns-in_default c =
    sym c.self.view_is
    ∙ give_none (locks_of c.self.inside.holdings) c.args.terminal c.args.name.now (get_none c.self.inside.holdings c.self.invariant.0.unique c.args.name.now c.args.terminal (sym c.in_default.ensures))
    ∙ ap (λ l. given_back l c.args.terminal c.args.name.now) c.self.view_is

pub returns-then-holding-terminal : goal.returns-then-holding-terminal
returns-then-holding-terminal c =
    let m = c.self.inside.holdings in
    let unique = c.self.invariant.0.unique in
    let name = c.args.name.now in
    sym c.self.view_is
    ∙ give_none (locks_of m) c.args.terminal name (get_other m unique name c.args.terminal c.in-Some.holding (sym (there m c.in-Some.index name c.in-Some.holding unique c.in-Some.ensures)) c.if-holding-terminal.true)
    ∙ ap (λ l. given_back l c.args.terminal name) c.self.view_is

pub set_count-requires-clause-within : goal.set_count-requires-clause-within
set_count-requires-clause-within c = slice_get_within c.self.inside.holdings.entries c.in-Some.index (c.args.name.now, c.in-Some.holding) c.in-Some.ensures

pub invariant_of-self : goal.invariant_of-self
invariant_of-self c =
    let m = c.self.inside.holdings in
    let unique = c.self.invariant.0.unique in
    let name = c.args.name.now in
    let h = c.in-Some.holding in (
      kept_recounted m c.set_count.new.holdings c.self.inside.below c.self.invariant.0 (c.set_count.ensures.kept unique),
      subst AreCounts
          (sym (c.set_count.ensures.locks name h c.in-Some.ensures unique ∙ less_is m unique name c.args.terminal c.in-Some.index h c.in-Some.ensures c.if-holding-terminal.false c.if-holding-gt1.true))
          (counts_given_back (locks_of m) c.args.terminal name c.self.invariant.1),
    )

pub returns-then-holding-gt1 : goal.returns-then-holding-gt1
returns-then-holding-gt1 c =
    c.set_count.ensures.locks c.args.name.now c.in-Some.holding c.in-Some.ensures c.self.invariant.0.unique
    ∙ less_is c.self.inside.holdings c.self.invariant.0.unique c.args.name.now c.args.terminal c.in-Some.index c.in-Some.holding c.in-Some.ensures c.if-holding-terminal.false c.if-holding-gt1.true
    ∙ ap (λ l. given_back l c.args.terminal c.args.name.now) c.self.view_is

pub let_go-requires-clause-within : goal.let_go-requires-clause-within
let_go-requires-clause-within c = slice_get_within c.self.inside.holdings.entries c.in-Some.index (c.args.name.now, c.in-Some.holding) c.in-Some.ensures

pub invariant_of-self-else-holding-gt1 : goal.invariant_of-self-else-holding-gt1
invariant_of-self-else-holding-gt1 c =
    let unique = c.self.invariant.0.unique in
    let name = c.args.name.now in
    let h = c.in-Some.holding in (
      c.let_go.ensures.kept,
      subst AreCounts
          (sym (c.let_go.ensures.removed name h c.in-Some.ensures ∙ last_is c.self.inside.holdings unique name c.args.terminal c.in-Some.index h c.in-Some.ensures c.if-holding-terminal.false c.if-holding-gt1.false))
          (counts_given_back (locks_of c.self.inside.holdings) c.args.terminal name c.self.invariant.1),
    )

pub returns-else-holding-gt1 : goal.returns-else-holding-gt1
returns-else-holding-gt1 c =
    c.let_go.ensures.removed c.args.name.now c.in-Some.holding c.in-Some.ensures
    ∙ last_is c.self.inside.holdings c.self.invariant.0.unique c.args.name.now c.args.terminal c.in-Some.index c.in-Some.holding c.in-Some.ensures c.if-holding-terminal.false c.if-holding-gt1.false
    ∙ ap (λ l. given_back l c.args.terminal c.args.name.now) c.self.view_is
