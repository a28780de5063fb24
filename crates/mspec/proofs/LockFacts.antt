-- SPDX-License-Identifier: Apache-2.0
-- What taking, giving back and releasing do to counts, and what they leave to other terminals.
use Rattle.mspec.proofs.SpecWords.{◌≡◌, ℕ, ◌+◌, ◌-◌, Bool, true, false, cond, not, List, [], ◌∷◌, length, Option, Some, None, refl, sym, ap, ◌∙◌, arith, nat_eq}
use Rattle.mspec.proofs.SpecWords.{nat_lt, unwrap_or, if◌then◌else◌, nat_tests, list_any, filter, Ordering, Less, Equal, Greater, nat_cmp, is_eq, eq_by_cmp}
use Rattle.mspec.proofs.SpecWords.{ordering_then, get, insert, remove, get-insert, LockName, lock_name_cmp, Locks, held, count, max_count, has_conflict}
use Rattle.mspec.proofs.SpecWords.{one_more, counted, released}
use Rattle.mspec.specs.LockLaws.{times, CountsGoUp, OthersKeepLocks}
use Rattle.mspec.proofs.LockOrders.{lock_name_cmp_exact, held_cmp_total, held_cmp_exact}
use Rattle.mspec.proofs.MapCuts.{equal_of, cut_drops, cut_removed, cut_twice}
use Rattle.mspec.proofs.Basics.{unopposed}

-- ---- counts

same_terminal : (t : ℕ) → nat_cmp t t ≡ Equal
same_terminal t = grind (arith, nat_tests)

itself : (t : ℕ) → not (nat_eq t t) ≡ false
itself t = grind (arith, nat_tests)

or_none : (b : Bool) (n : ℕ) (o : Option ℕ) → unwrap_or (cond b (Some n) o) 0 ≡ cond b n (unwrap_or o 0)
or_none true n o = refl
or_none false n o = refl

with_equal : (o : Ordering) → is_eq (ordering_then o Equal) ≡ is_eq o
with_equal Less = refl
with_equal Equal = refl
with_equal Greater = refl

count_inserted : (locks : Locks) (t : ℕ) (m n : LockName) (k : ℕ) → count (insert locks (held t m) k) (held t n) ≡ cond (eq_by_cmp lock_name_cmp n m) k (count locks (held t n))
count_inserted locks t m n k =
    ap (λ o. unwrap_or o 0) (get-insert held_cmp_total locks (held t m) k (held t n))
    ∙ ap (λ o. unwrap_or (cond (is_eq (ordering_then (lock_name_cmp n m) o)) (Some k) (get locks (held t n))) 0) (same_terminal t)
    ∙ ap (λ b. unwrap_or (cond b (Some k) (get locks (held t n))) 0) (with_equal (lock_name_cmp n m))
    ∙ or_none (eq_by_cmp lock_name_cmp n m) k (get locks (held t n))

one_time : (locks : Locks) (t : ℕ) (names : List LockName) (m n : LockName) (b : Bool) → eq_by_cmp lock_name_cmp n m ≡ b
    → cond b (count locks (held t m) + 1) (count locks (held t n)) + times n names ≡ count locks (held t n) + length (cond b (m ∷ filter (eq_by_cmp lock_name_cmp n) names) (filter (eq_by_cmp lock_name_cmp n) names))
one_time locks t names m n true e =
    let same : count locks (held t m) ≡ count locks (held t n) = ap (λ n. count locks (held t n)) (sym (lock_name_cmp_exact n m (equal_of (lock_name_cmp n m) e))) in
    omega (arith, same)
one_time locks t names m n false e = refl

counted_one : (t : ℕ) (m : LockName) (names : List LockName) (locks after : Locks) (n : LockName) (b : Bool)
    → (counted (one_more locks (held t m)) t names ≡ Some after → count after (held t n) ≡ count (one_more locks (held t m)) (held t n) + times n names)
    → (if b then counted (one_more locks (held t m)) t names else None) ≡ Some after → count after (held t n) ≡ count locks (held t n) + times n (m ∷ names)
counted_one t m names locks after n true later e =
    later e ∙ ap (λ c. c + times n names) (count_inserted locks t m n (count locks (held t m) + 1)) ∙ one_time locks t names m n (eq_by_cmp lock_name_cmp n m) refl
counted_one t m names locks after n false later e = absurd (cc)

counted_up : (t : ℕ) (names : List LockName) (locks after : Locks) (n : LockName) → counted locks t names ≡ Some after → count after (held t n) ≡ count locks (held t n) + times n names
counted_up t [] locks after n e =
    let same : locks ≡ after = ap (λ o. unwrap_or o locks) e in
    ap (λ l. count l (held t n)) (sym same) ∙ omega arith
counted_up t (m ∷ names) locks after n e =
    counted_one t m names locks after n (nat_lt (count locks (held t m)) max_count) (counted_up t names (one_more locks (held t m)) after n) e

pub counts_go_up : CountsGoUp
counts_go_up locks after t names n e = counted_up t names locks after n (unopposed (list_any (λ n. has_conflict locks (held t n)) names) (counted locks t names) after e)

-- ---- other terminals

one_unseen : (t : ℕ) (n : LockName) (names : List LockName) (locks after : Locks) (b : Bool)
    → (counted (one_more locks (held t n)) t names ≡ Some after → released after t ≡ released (one_more locks (held t n)) t)
    → (if b then counted (one_more locks (held t n)) t names else None) ≡ Some after → released after t ≡ released locks t
one_unseen t n names locks after true later e =
    later e ∙ cut_drops held_cmp_total held_cmp_exact locks (λ h. not (nat_eq h.terminal t)) (held t n) (count locks (held t n) + 1) (itself t)
one_unseen t n names locks after false later e = absurd (cc)

counted_unseen : (t : ℕ) (names : List LockName) (locks after : Locks) → counted locks t names ≡ Some after → released after t ≡ released locks t
counted_unseen t [] locks after e =
    let same : locks ≡ after = ap (λ o. unwrap_or o locks) e in
    ap (λ l. released l t) (sym same)
counted_unseen t (n ∷ names) locks after e =
    one_unseen t n names locks after (nat_lt (count locks (held t n)) max_count) (counted_unseen t names (one_more locks (held t n)) after) e

back_unseen : (locks : Locks) (t : ℕ) (n : LockName) (k : ℕ) (b : Bool) → released (if b then insert locks (held t n) k else remove locks (held t n)) t ≡ released locks t
back_unseen locks t n k true = cut_drops held_cmp_total held_cmp_exact locks (λ h. not (nat_eq h.terminal t)) (held t n) k (itself t)
back_unseen locks t n k false = cut_removed held_cmp_total held_cmp_exact locks (λ h. not (nat_eq h.terminal t)) (held t n) (itself t)

pub others_keep_locks : (locks : Locks) (terminal : ℕ) → OthersKeepLocks locks terminal
others_keep_locks locks t = record {
  taken = λ names after e. counted_unseen t names locks after (unopposed (list_any (λ n. has_conflict locks (held t n)) names) (counted locks t names) after e);
  given_back = λ n. back_unseen locks t n (count locks (held t n) - 1) (nat_lt 1 (count locks (held t n)));
  released = cut_twice held_cmp_total held_cmp_exact locks (λ h. not (nat_eq h.terminal t));
}
