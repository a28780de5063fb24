-- SPDX-License-Identifier: Apache-2.0
use Rattle.mlock.proofs.LockWords.{◌≡◌, ◌<◌, ℕ, Bool, true, false, Result, Ok, Err, not, length, refl, sym, ap, ◌∙◌, IfOk, list_any, IndexMap, IsUnique, get}
use Rattle.mlock.proofs.LockWords.{LockName, held, has_conflict, Holding, name_above, is_other, locks_of, name_eq, is_only}
use Rattle.mlock.proofs.Conflicts.{by_below, by_above, by_itself, by_none, by_no_name}
use Rattle.mlock.proofs.Sums.{under_other, only_is}
use Rattle.mlock.proofs.conflict.conflicts.Goals as goal

module _ {S : Type 0} (m : IndexMap LockName Holding S) (unique : IsUnique name_eq m) (n : LockName) (t : ℕ) (below : list_any (under_other n t) m.entries ≡ false) (itself : is_other t (get name_eq m n) ≡ false) where
  by_answer : {E : Type 0} (r : Result Bool E)
      → IfOk r (λ b. b ≡ true → (i : ℕ) × (is_other t (get name_eq m (name_above i n)) ≡ true))
      → IfOk r (λ b. b ≡ false → (i : ℕ) → i < length n.node.subscripts → is_other t (get name_eq m (name_above i n)) ≡ false)
      → IfOk r (λ b. b ≡ has_conflict (locks_of m) (held t n))
  by_answer (Ok true) some none = let found = some refl in sym (by_above m n t found.0 found.1)
  by_answer (Ok false) some none = sym (by_none m n t unique below itself (none refl))
  by_answer (Err e) some none = some

pub returns-then-is_empty : goal.returns-then-is_empty
returns-then-is_empty c = sym (by_no_name c.args.holdings.now c.args.name.now c.args.terminal (c.is_empty.ensures.0 c.if-is_empty.true))

pub returns-then-is_others_below : goal.returns-then-is_others_below
returns-then-is_others_below c =
    let n = c.args.name.now in
    let t = c.args.terminal in
    sym (by_below c.args.holdings.now n t (sym (only_is t n c.args.holdings.now.entries) ∙ ap (λ a. not (is_only t a)) (sym (c.requires.tied n)) ∙ sym c.is_others_below.ensures ∙ c.if-is_others_below.true))

pub returns-then-is_others : goal.returns-then-is_others
returns-then-is_others c = sym (by_itself c.args.holdings.now c.args.name.now c.args.terminal (sym c.is_others.ensures ∙ c.if-is_others.true))

pub returns : goal.returns
returns c =
    let t = c.args.terminal in
    by_answer c.args.holdings.now c.requires.unique c.args.name.now t
    (sym (only_is t c.args.name.now c.args.holdings.now.entries) ∙ ap (λ a. not (is_only t a)) (sym (c.requires.tied c.args.name.now)) ∙ sym c.is_others_below.ensures ∙ c.if-is_others_below.false)
    (sym c.is_others.ensures ∙ c.if-is_others.false)
    c.is_held_above.result c.is_held_above.ensures.yes c.is_held_above.ensures.no
