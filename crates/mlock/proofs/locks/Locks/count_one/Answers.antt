-- SPDX-License-Identifier: Apache-2.0
use Rattle.mlock.proofs.LockWords.{◌≡◌, ◌+◌, ◌<◌, ◌≤◌, ℕ, true, false, Some, None, ap, sym, ◌∙◌, subst, arith, IfSome, nat_lt, slice_get, insert, nat_tests}
use Rattle.mlock.proofs.LockWords.{slice_get_within, IndexMap, IsUnique, LockName, Locks, held, count, one_more, max_count, Holding, locks_of, AreCounts}
use Rattle.mlock.proofs.LockWords.{IsFree, name_eq}
use Rattle.indexmap.specs.IndexMap as index
use Rattle.mlock.proofs.Moves.{there, kept_recounted}
use Rattle.mlock.proofs.Steps.{own_of_free, count_own, count_none, counts_one_more}
use Rattle.mlock.proofs.locks.Locks.count_one.Goals as goal

full : (n c : ℕ) → n ≡ c → max_count ≤ c → false ≡ nat_lt n max_count
full n c e h = grind (arith, nat_tests)

room : (n c : ℕ) → n ≡ c → c < max_count → true ≡ nat_lt n max_count
room n c e h = grind (arith, nat_tests)

module _ {S : Type 0} (m : IndexMap LockName Holding S) (l : Locks) (is : locks_of m ≡ l) (unique : IsUnique name_eq m) (name : LockName) (t : ℕ) (i : ℕ) (h : Holding) (at : slice_get m.entries i ≡ Some (name, h)) (free : IsFree l t name) where
  -- the holding that is there is the terminal's
  own : h.terminal ≡ t
  own = own_of_free m unique name t (subst (λ k. IsFree k t name) (sym is) free) h (sym (there m i name h unique at))

  counts_are : count l (held t name) ≡ h.count
  counts_are = ap (λ k. count k (held t name)) (sym is) ∙ count_own m unique name t h (sym (there m i name h unique at)) own

  more_is : insert (locks_of m) (held t name) (h.count + 1) ≡ one_more (locks_of m) (held t name)
  more_is = ap (λ c. insert (locks_of m) (held t name) (c + 1)) (sym (count_own m unique name t h (sym (there m i name h unique at)) own))

  more_counts : AreCounts (locks_of m) → h.count < max_count → AreCounts (one_more (locks_of m) (held t name))
  more_counts counts less = counts_one_more (locks_of m) (held t name) counts (let same = count_own m unique name t h (sym (there m i name h unique at)) own in omega (arith, same, less))

module _ {S : Type 0} (m : IndexMap LockName Holding S) (l : Locks) (is : locks_of m ≡ l) (unique : IsUnique name_eq m) (name : LockName) (t : ℕ) (none : index.get name_eq m name ≡ None) where
  no_count : count l (held t name) ≡ 0
  no_count = ap (λ k. count k (held t name)) (sym is) ∙ count_none m unique name t (sym none)

pub invariant_of-self-in_default : goal.invariant_of-self-in_default
invariant_of-self-in_default c =
    let q = held c.args.terminal c.args.name.now in
    let none = count_none c.self.inside.holdings c.self.invariant.0.unique c.args.name.now c.args.terminal (sym c.in_default.ensures) in
    (c.in_ok-hold.ensures.kept, subst AreCounts (sym c.in_ok-hold.ensures.held) (counts_one_more (locks_of c.self.inside.holdings) q c.self.invariant.1 (omega (arith, none))))

pub returns-in_default-clause-room : goal.returns-in_default-clause-room
returns-in_default-clause-room c =
    room (count c.args.self.now (held c.args.terminal c.args.name.now)) 0
    (no_count c.self.inside.holdings c.args.self.now c.self.view_is c.self.invariant.0.unique c.args.name.now c.args.terminal c.in_default.ensures) (omega arith)

pub returns-then-holding-ge-MAX_COUNT-clause-room :
    goal.returns-then-holding-ge-MAX_COUNT-clause-room
returns-then-holding-ge-MAX_COUNT-clause-room c =
    full (count c.args.self.now (held c.args.terminal c.args.name.now)) c.in-Some.holding.count
    (counts_are c.self.inside.holdings c.args.self.now c.self.view_is c.self.invariant.0.unique c.args.name.now c.args.terminal c.in-Some.index c.in-Some.holding c.in-Some.ensures c.requires)
    c.if-holding-ge-MAX_COUNT.true

pub set_count-requires-clause-within : goal.set_count-requires-clause-within
set_count-requires-clause-within c = slice_get_within c.self.inside.holdings.entries c.in-Some.index (c.args.name.now, c.in-Some.holding) c.in-Some.ensures

pub set_count-requires-clause-own : goal.set_count-requires-clause-own
set_count-requires-clause-own c =
    subst (λ o. IfSome o (λ e. e.1.terminal ≡ c.args.terminal)) (sym c.in-Some.ensures)
    (own c.self.inside.holdings c.args.self.now c.self.view_is c.self.invariant.0.unique c.args.name.now c.args.terminal c.in-Some.index c.in-Some.holding c.in-Some.ensures c.requires)

pub invariant_of-self-2 : goal.invariant_of-self-2
invariant_of-self-2 c =
    let unique = c.self.invariant.0.unique in
    let t = c.args.terminal in (
      kept_recounted c.self.inside.holdings c.set_count.new.holdings c.self.inside.below c.self.invariant.0 (c.set_count.ensures.kept unique),
      subst AreCounts
          (sym (c.set_count.ensures.locks c.args.name.now c.in-Some.holding c.in-Some.ensures unique
          ∙ more_is c.self.inside.holdings c.args.self.now c.self.view_is unique c.args.name.now t c.in-Some.index c.in-Some.holding c.in-Some.ensures c.requires))
          (more_counts c.self.inside.holdings c.args.self.now c.self.view_is unique c.args.name.now t c.in-Some.index c.in-Some.holding c.in-Some.ensures c.requires c.self.invariant.1 c.if-holding-ge-MAX_COUNT.false),
    )

pub returns-clause-room : goal.returns-clause-room
returns-clause-room c =
    room (count c.args.self.now (held c.args.terminal c.args.name.now)) c.in-Some.holding.count
    (counts_are c.self.inside.holdings c.args.self.now c.self.view_is c.self.invariant.0.unique c.args.name.now c.args.terminal c.in-Some.index c.in-Some.holding c.in-Some.ensures c.requires)
    c.if-holding-ge-MAX_COUNT.false

pub returns-clause-counted : goal.returns-clause-counted
returns-clause-counted c =
    c.set_count.ensures.locks c.args.name.now c.in-Some.holding c.in-Some.ensures c.self.invariant.0.unique
    ∙ more_is c.self.inside.holdings c.args.self.now c.self.view_is c.self.invariant.0.unique c.args.name.now c.args.terminal c.in-Some.index c.in-Some.holding c.in-Some.ensures c.requires
    ∙ ap (λ l. one_more l (held c.args.terminal c.args.name.now)) c.self.view_is
