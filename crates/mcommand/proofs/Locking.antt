-- SPDX-License-Identifier: Apache-2.0
-- What LOCK asks of the locks.
use Rattle.std.proofs.Common.{Option}
use Rattle.mcommand.proofs.CommandWords.{Doubts-same, ◌≡◌, ℕ, ◌+◌, ◌<◌, Bool, true, false, List, [], ◌∷◌, ◌++◌, Some, None, MutBor, Result, Ok, length, drop}
use Rattle.mcommand.proofs.CommandWords.{get_or, refl, sym, ap, ◌∙◌, subst, if◌then◌else◌, ◌&&◌, Op, Answer, Take, Give_back, Release, Act, ◌>>=◌, ◌>>◌, ask}
use Rattle.mcommand.proofs.CommandWords.{next_item, ReferenceTree, named_lock, Inside, evaluated, asked, assoc, Ghosts, Code, lock_name_act, standing_of, Parts}
use Rattle.mcommand.proofs.CommandWords.{Does, here_of, MayTake}
use Rattle.std.specs.List.{list_all}
use Rattle.std.proofs.lemmas.List.Folds.{list_all-append}
use Rattle.mspec.specs.LockConflict.{LockName, Locks, taken, given_back, released}
use Rattle.mmeaning.specs.Shared.{guarded, may_lock, took}
use Rattle.mmeaning.specs.Locking as meaning
use Rattle.mmeaning.specs.Calls.{Standing, ops_of}
use Rattle.mmeaning.proofs.LockMoves.{take_open}
use Rattle.mspec.specs.Act.{give}
use Rattle.mgrammar.specs.Grammar.{ExprTree, LockKindTree, lock_one}
use Rattle.mcommand.specs.LockNames.{locking_names}
use Rattle.mcommand.proofs.Calls.{does_then}
use Rattle.meval.proofs.Calls.{keeps_itself}

-- ---- names that may be taken

pub one_more_taken : (b : Standing) (names : List LockName) (n : LockName) → MayTake b names → may_lock b.settings b.account n ≡ true
    → MayTake b (names ++ n ∷ [])
one_more_taken b names n all this =
    list_all-append (may_lock b.settings b.account) names (n ∷ []) ∙ both (list_all (may_lock b.settings b.account) names)
    (may_lock b.settings b.account n) all this
  where
    both : (x y : Bool) → x ≡ true → y ≡ true → (x && (y && true)) ≡ true
    both true true h k = refl
    both true false h k = k
    both false y h k = h

-- the act of a reference, before those after it
pub name_is : (i : Inside) (names : List LockName) (r : ReferenceTree) (rs : List ReferenceTree)
    → ◌≡◌ {A = Act (List LockName)} (meaning.lock_names i names (r ∷ rs)) (lock_name_act i r >>= (λ n. meaning.lock_names i (names ++ n ∷ []) rs))
name_is i names r rs = sym (assoc (evaluated i r) (named_lock i.account) (λ n. meaning.lock_names i (names ++ n ∷ []) rs))

-- an argument with one name
pub one_is : (i : Inside) (k : LockKindTree) (r : ReferenceTree) (t : Option ExprTree)
    → ◌≡◌ {A = Act (Unit {0})} (meaning.locking i k (lock_one r) t) (lock_name_act i r >>= (λ n. locking_names i k t (n ∷ [])))
one_is i k r t =
    ap (λ (p : Act (List LockName)). p >>= locking_names i k t) (name_is i [] r []) ∙ assoc (lock_name_act i r) (λ n. give (n ∷ [])) (locking_names i k t)

module _ {S : Type 0} {g : Ghosts S} where
  -- ---- operations

  -- one that changes no more than the locks
  asked_of_locks : {X : Type 0} {old : Parts S} (l : MutBor Locks) → l.ghost_name ≡ old.locks.ghost_name → (op : Op) (f : X → Answer op) (x : X)
      → ops_of (standing_of old.eval) op (here_of g old).1 ≡ (f x, (here_of g (record old { locks = l })).1)
      → Does g (λ i. ask op) f old (Ok x) (record old { locks = l })
  asked_of_locks {old = old} l lent op f x e = record {
    doubt = Doubts-same _;
    at = λ sure. asked op f x (here_of g (record old { locks = l })).1 e;
    keeps = record { eval = keeps_itself _; locks = lent; out = refl };
    depth = refl;
  }

  pub does_release : {old : Parts S} (l : MutBor Locks) → l.ghost_name ≡ old.locks.ghost_name → l.now ≡ released old.locks.now old.eval.terminal
      → Does g (λ i. ask Release) (λ (u : Unit {0}). u) old (Ok tt) (record old { locks = l })
  does_release {old = old} l lent e = asked_of_locks l lent Release (λ u. u) tt (ap (λ locks. (tt, record (here_of g old).1 { locks = locks })) (sym e))

  pub does_give_back : {old : Parts S} (n : LockName) (l : MutBor Locks) → l.ghost_name ≡ old.locks.ghost_name
      → l.now ≡ given_back old.locks.now old.eval.terminal n → Does g (λ i. ask (Give_back n)) (λ (u : Unit {0}). u) old (Ok tt) (record old { locks = l })
  does_give_back {old = old} n l lent e =
      asked_of_locks l lent (Give_back n) (λ u. u) tt (ap (λ locks. (tt, record (here_of g old).1 { locks = locks })) (sym e))

  pub does_take : {old : Parts S} (names : List LockName) (all : Bool) (l : MutBor Locks) → l.ghost_name ≡ old.locks.ghost_name
      → MayTake (standing_of old.eval) names → taken old.locks.now old.eval.terminal names ≡ (if all then Some l.now else None)
      → (all ≡ false → l.now ≡ old.locks.now)
      → Does g (λ i. ask (Take names)) (λ (b : Bool). b) old (Ok all) (record old { locks = l })
  does_take {old = old} names all l lent may e none =
      asked_of_locks l lent (Take names) (λ b. b) all
      (take_open (standing_of old.eval) names (here_of g old).1 may ∙ ap (took (here_of g old).1) e ∙ either all none)
    where
      either : (b : Bool) → (b ≡ false → l.now ≡ old.locks.now)
          → took (here_of g old).1 (if b then Some l.now else None) ≡ (b, record (here_of g old).1 { locks = l.now })
      either true same = refl
      either false same = ap (λ locks. (false, record (here_of g old).1 { locks = locks })) (sym (same refl))

  -- names that the account may not take
  pub does_refuse : {old : Parts S} (names : List LockName)
      → list_all (may_lock (standing_of old.eval).settings (standing_of old.eval).account) names ≡ false
      → Does g (λ i. ask (Take names)) (λ (b : Bool). b) old (Ok false) old
  does_refuse {old = old} names closed =
      asked_of_locks old.locks refl (Take names) (λ b. b) false
      (let w = (here_of g old).1 in ap (λ b. guarded b false w (took w (taken w.locks (standing_of old.eval).terminal names))) closed)

  -- each name is given back
  pub next_given : {old mid new : Parts S} {r : Result (Unit {0}) Code} (names : List LockName) (k : ℕ) (d : LockName) → k < length names → d ≡ get_or names k d
      → Does g (λ i. ask (Give_back d)) (λ (u : Unit {0}). u) old (Ok tt) mid
      → Does g (λ i. meaning.given_back_all (drop (k + 1) names)) (λ (u : Unit {0}). u) mid r new
      → Does g (λ i. meaning.given_back_all (drop k names)) (λ (u : Unit {0}). u) old r new
  next_given {old = old} {new = new} {r = r} names k d within is h rest =
      subst (λ (ns : List LockName). Does g (λ i. meaning.given_back_all ns) (λ (u : Unit {0}). u) old r new) (sym (next_item names k d within is))
      (does_then (λ i _. meaning.given_back_all (drop (k + 1) names)) h rest)
