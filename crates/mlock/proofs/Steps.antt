-- SPDX-License-Identifier: Apache-2.0
-- What each way through a call does to the locks.
use Rattle.mlock.proofs.LockWords.{◌≡◌, ◌+◌, ◌-◌, ◌<◌, ◌≤◌, ℕ, zero, suc, Bool, true, false, cond, List, ◌∷◌, Option, Some, None, All, ◌⊎◌, inl, inr, refl, sym}
use Rattle.mlock.proofs.LockWords.{ap, ◌∙◌, subst, arith, slice_index_or, unwrap_or, nat_lt, insert, remove, get-insert, get-remove, same_map, eq_by_cmp}
use Rattle.mlock.proofs.LockWords.{Equal-is, eq_by_cmp_equiv, cases_eq, nat_tests, IndexMap, IsUnique, LockName, Held, held, Locks, held_cmp, count, max_count}
use Rattle.mlock.proofs.LockWords.{one_more, given_back, held_cmp_total, held_cmp_exact, Holding, locks_of, own_count, IsFree, AreCounts, name_eq}
use Rattle.std.specs.FinMap.{get}
use Rattle.std.proofs.lemmas.List.Elements.{All-head, All-tail}
use Rattle.indexmap.specs.IndexMap as index
use Rattle.mlock.proofs.Names.{at_test}
use Rattle.mlock.proofs.Views.{got, own_is, other_is, counts_insert, counts_remove, count_few}

-- ---- of the locks alone

pub same_lock : (q h : Held) → eq_by_cmp held_cmp q h ≡ true → q ≡ h
same_lock q h e = held_cmp_exact q h ((Equal-is (held_cmp q h)).0 e)

-- what has at one lock what it had, and no other change, is unchanged
restored : (l m : Locks) (h : Held) (o : Option ℕ) → get l h ≡ o → ((q : Held) → get m q ≡ cond (eq_by_cmp held_cmp q h) o (get l q)) → m ≡ l
restored l m h o e is =
    same_map held_cmp_total held_cmp_exact m l
    (λ q. is q ∙ at_test (eq_by_cmp held_cmp q h) (λ b. cond b o (get l q) ≡ get l q) (λ tied. sym (ap (get l) (same_lock q h tied) ∙ e)) (λ other. refl))

given_by : (l : Locks) (t : ℕ) (n : LockName) (o : Option ℕ) → get l (held t n) ≡ o → given_back l t n ≡ cond (nat_lt 1 (unwrap_or o 0)) (insert l (held t n) (unwrap_or o 0 - 1)) (remove l (held t n))
given_by l t n o e = ap (λ c. cond (nat_lt 1 (unwrap_or c 0)) (insert l (held t n) (unwrap_or c 0 - 1)) (remove l (held t n))) e

more_than_one : (c : ℕ) → 1 < c → nat_lt 1 c ≡ true
more_than_one c h = grind (arith, nat_tests)

at_most_one : (c : ℕ) → c ≤ 1 → nat_lt 1 c ≡ false
at_most_one c h = grind (arith, nat_tests)

-- what is not held is given back without a change
pub give_none : (l : Locks) (t : ℕ) (n : LockName) → get l (held t n) ≡ None → l ≡ given_back l t n
give_none l t n e = sym (given_by l t n None e ∙ restored l (remove l (held t n)) (held t n) None e (λ q. get-remove held_cmp_total l (held t n) q))

cond_twice : (b : Bool) (x y z : Option ℕ) → cond b x (cond b y z) ≡ cond b x z
cond_twice b x y z = grind arith

pub tied_itself : (h : Held) → eq_by_cmp held_cmp h h ≡ true
tied_itself h = (eq_by_cmp_equiv held_cmp_total).refl h

-- one count more, given back, leaves what was
pub back_again : (l : Locks) (t : ℕ) (n : LockName) → AreCounts l → given_back (one_more l (held t n)) t n ≡ l
back_again l t n counts = by_count (get l (held t n)) refl
  where
    h : Held
    h = held t n

    after : (c : ℕ) → get (insert l (held t n) c) (held t n) ≡ Some c
    after c = get-insert held_cmp_total l (held t n) c (held t n) ∙ ap (λ b. cond b (Some c) (get l (held t n))) (tied_itself (held t n))

    by_count : (o : Option ℕ) → get l (held t n) ≡ o → given_back (one_more l (held t n)) t n ≡ l
    by_count None e =
        ap (λ c. given_back (insert l (held t n) (unwrap_or c 0 + 1)) t n) e
        ∙ given_by (insert l (held t n) 1) t n (Some 1) (after 1)
        ∙ restored l (remove (insert l (held t n) 1) (held t n)) (held t n) None e (λ q.
        get-remove held_cmp_total (insert l (held t n) 1) (held t n) q
        ∙ ap (cond (eq_by_cmp held_cmp q (held t n)) None) (get-insert held_cmp_total l (held t n) 1 q)
        ∙ cond_twice (eq_by_cmp held_cmp q (held t n)) None (Some 1) (get l q))
    by_count (Some zero) e = let some : 0 < 0 = (counts (held t n) 0 e).0 in absurd (omega (arith, some))
    by_count (Some (suc k)) e =
        let c : ℕ = suc k in
        let less : c + 1 - 1 ≡ c = omega arith in
        ap (λ o. given_back (insert l (held t n) (unwrap_or o 0 + 1)) t n) e
        ∙ given_by (insert l (held t n) (c + 1)) t n (Some (c + 1)) (after (c + 1))
        ∙ ap (λ b. cond b (insert (insert l (held t n) (c + 1)) (held t n) (c + 1 - 1)) (remove (insert l (held t n) (c + 1)) (held t n))) (more_than_one (c + 1) (omega arith))
        ∙ restored l (insert (insert l (held t n) (c + 1)) (held t n) (c + 1 - 1)) (held t n) (Some c) e (λ q.
        get-insert held_cmp_total (insert l (held t n) (c + 1)) (held t n) (c + 1 - 1) q
        ∙ ap (cond (eq_by_cmp held_cmp q (held t n)) (Some (c + 1 - 1))) (get-insert held_cmp_total l (held t n) (c + 1) q)
        ∙ cond_twice (eq_by_cmp held_cmp q (held t n)) (Some (c + 1 - 1)) (Some (c + 1)) (get l q)
        ∙ ap (λ d. cond (eq_by_cmp held_cmp q (held t n)) (Some d) (get l q)) less)

pub counts_given_back : (l : Locks) (t : ℕ) (n : LockName) → AreCounts l → AreCounts (given_back l t n)
counts_given_back l t n counts =
    at_test (nat_lt 1 (count l (held t n))) (λ b. AreCounts (cond b (insert l (held t n) (count l (held t n) - 1)) (remove l (held t n))))
    (λ e.
    let few : count l (held t n) ≤ max_count = count_few l (held t n) counts in
    counts_insert l (held t n) (count l (held t n) - 1) counts (grind (arith, nat_tests, e)) (omega (arith, few)))
    (λ e. counts_remove l (held t n) counts)

pub counts_one_more : (l : Locks) (h : Held) → AreCounts l → count l h < max_count → AreCounts (one_more l h)
counts_one_more l h counts room = counts_insert l h (count l h + 1) counts (omega arith) (omega (arith, room))

-- a name that no other terminal holds is none still, after a count more
pub free_after : (l : Locks) (t : ℕ) (k n : LockName) → IsFree l t n → IsFree (one_more l (held t k)) t n
free_after l t k n free u other =
    get-insert held_cmp_total l (held t k) (count l (held t k) + 1) (held u n)
    ∙ at_test (eq_by_cmp held_cmp (held u n) (held t k)) (λ b. cond b (Some (count l (held t k) + 1)) (get l (held u n)) ≡ None)
    (λ e. absurd (other (ap (λ h. h.terminal) (same_lock (held u n) (held t k) e)))) (λ e. free u other)

-- a count more that is given back, with no change in between
pub undone : (l l1 l2 l3 : Locks) (t : ℕ) (n : LockName) → AreCounts l → l1 ≡ one_more l (held t n) → l2 ≡ l1 → l3 ≡ given_back l2 t n → l3 ≡ l
undone l l1 l2 l3 t n counts more same back = back ∙ ap (λ k. given_back k t n) (same ∙ more) ∙ back_again l t n counts

-- names that no other terminal holds
pub free_rest : (l l1 : Locks) (t : ℕ) (n : LockName) (names rest : List LockName) → names ≡ n ∷ rest → All (IsFree l t) names → l1 ≡ one_more l (held t n) → All (IsFree l1 t) rest
free_rest l l1 t n names rest e all more =
    subst (λ k. All (IsFree k t) rest) (sym more)
    (λ k d inside. free_after l t n (slice_index_or rest k d) (All-tail (IsFree l t) n rest (subst (All (IsFree l t)) e all) k d inside))

pub free_first : (l : Locks) (t : ℕ) (n : LockName) (names rest : List LockName) → names ≡ n ∷ rest → All (IsFree l t) names → IsFree l t n
free_first l t n names rest e all = All-head (IsFree l t) n rest (subst (All (IsFree l t)) e all)

-- ---- by the holdings

module _ {S : Type 0} (m : IndexMap LockName Holding S) (unique : IsUnique name_eq m) (name : LockName) (t : ℕ) where
  pub get_own : (h : Holding) → Some h ≡ index.get name_eq m name → h.terminal ≡ t → get (locks_of m) (held t name) ≡ Some h.count
  get_own h e is = got m unique (held t name) ∙ ap (own_count t) (sym e) ∙ own_is h t is

  pub get_other : (h : Holding) → Some h ≡ index.get name_eq m name → (h.terminal ≡ t → ⊥) → get (locks_of m) (held t name) ≡ None
  get_other h e is = got m unique (held t name) ∙ ap (own_count t) (sym e) ∙ other_is h t is

  pub get_none : None ≡ index.get name_eq m name → get (locks_of m) (held t name) ≡ None
  get_none e = got m unique (held t name) ∙ ap (own_count t) (sym e)

  -- a name that no other terminal holds is this terminal's
  pub own_of_free : IsFree (locks_of m) t name → (h : Holding) → Some h ≡ index.get name_eq m name → h.terminal ≡ t
  own_of_free free h e = by_test (cases_eq h.terminal t)
    where
      by_test : (h.terminal ≡ t) ⊎ (h.terminal ≡ t → ⊥) → h.terminal ≡ t
      by_test (inl same) = same
      by_test (inr other) =
          let there : get (locks_of m) (held h.terminal name) ≡ Some h.count = got m unique (held h.terminal name) ∙ ap (own_count h.terminal) (sym e) ∙ own_is h h.terminal refl in
          let none : None ≡ Some h.count = sym (free h.terminal other) ∙ there in
          absurd (cc)

  pub count_own : (h : Holding) → Some h ≡ index.get name_eq m name → h.terminal ≡ t → count (locks_of m) (held t name) ≡ h.count
  count_own h e is = ap (λ o. unwrap_or o 0) (get_own h e is)

  pub count_none : None ≡ index.get name_eq m name → count (locks_of m) (held t name) ≡ 0
  count_none e = ap (λ o. unwrap_or o 0) (get_none e)

  given_own : (h : Holding) (b : Bool) → Some h ≡ index.get name_eq m name → h.terminal ≡ t → nat_lt 1 h.count ≡ b
      → cond b (insert (locks_of m) (held t name) (h.count - 1)) (remove (locks_of m) (held t name)) ≡ given_back (locks_of m) t name
  given_own h b e is more = grind (arith, given_by (locks_of m) t name (Some h.count) (get_own h e is), more)

  pub less_own : (h : Holding) → Some h ≡ index.get name_eq m name → h.terminal ≡ t → 1 < h.count → insert (locks_of m) (held t name) (h.count - 1) ≡ given_back (locks_of m) t name
  less_own h e is more = given_own h true e is (more_than_one h.count more)

  pub last_own : (h : Holding) → Some h ≡ index.get name_eq m name → h.terminal ≡ t → h.count ≤ 1 → remove (locks_of m) (held t name) ≡ given_back (locks_of m) t name
  last_own h e is last = given_own h false e is (at_most_one h.count last)
