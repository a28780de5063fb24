-- SPDX-License-Identifier: Apache-2.0
-- What calls of the map of holdings do to the locks that it holds.
use Rattle.mlock.proofs.LockWords.{Entry, ◌≡◌, ◌<◌, ◌≤◌, ℕ, Bool, true, false, cond, not, ◌&&◌, List, [], ◌∷◌, Option, Some, None, map, nat_eq, length, refl}
use Rattle.mlock.proofs.LockWords.{sym, ap, ◌∙◌, subst, arith, Ordering, insert, remove, empty, retain_keys, get-insert, get-remove, get-from_entries}
use Rattle.mlock.proofs.LockWords.{get-retain_keys, get-empty, same_map, find, AllByRecursion, IsDistinct, lookup, keys_of, is_eq, eq_by_cmp, eq_by_cmp_equiv}
use Rattle.mlock.proofs.LockWords.{nat_tests, place_from_lookup, slice_get_within, none-some, IndexMap, IsUnique, Updates, LockName, Held, held, Locks}
use Rattle.mlock.proofs.LockWords.{lock_name_cmp, held_cmp, released, count, max_count, lock_name_cmp_total, held_cmp_total, held_cmp_exact, Holding, lock_of}
use Rattle.mlock.proofs.LockWords.{locks_of, own_count, AreCounts, name_eq}
use Rattle.std.specs.Prelude.{option_map, slice_get, ⊤}
use Rattle.std.specs.FinMap.{get}
use Rattle.std.proofs.lemmas.Map.Keys.{IsDistinct-head, IsDistinct-tail}
use Rattle.indexmap.specs.IndexMap as index
use Rattle.mlock.proofs.Names.{at_test}
use Rattle.mlock.proofs.Under.{is_same}

yes : (t u : ℕ) → t ≡ u → nat_eq t u ≡ true
yes t u e = grind (arith, nat_tests)

pub no : (t u : ℕ) → (t ≡ u → ⊥) → nat_eq t u ≡ false
no t u e = grind (arith, nat_tests)

-- whether two locks are one, by their names and terminals
tied : (o : Ordering) (q h : Held) → lock_name_cmp q.name h.name ≡ o → eq_by_cmp held_cmp q h ≡ (is_eq o && nat_eq h.terminal q.terminal)
tied o q h e = grind arith

tied_names : (q h : Held) → eq_by_cmp held_cmp q h ≡ (name_eq q.name h.name && nat_eq h.terminal q.terminal)
tied_names q h = tied (lock_name_cmp q.name h.name) q h refl

-- ---- what the locks have

-- a name that is none of the others is not among them
absent : (n : LockName) (es : List Entry) → AllByRecursion (λ k. name_eq n k ≡ false) (keys_of es) → (t : ℕ) → find held_cmp (held t n) (map lock_of es) ≡ None
absent n [] all t = refl
absent n (e ∷ es) all t = grind (arith, tied_names (held t n) (lock_of e).0, all.0, absent n es all.1 t)

-- what is found of a lock is its terminal's part of its name's holding
found : (q : Held) (es : List Entry) → IsDistinct name_eq (keys_of es) → find held_cmp q (map lock_of es) ≡ own_count q.terminal (lookup (name_eq q.name) es)
found q [] distinct = refl
found q (e ∷ es) distinct =
    ap (λ b. cond b (Some e.1.count) (find held_cmp q (map lock_of es))) (tied_names q (lock_of e).0)
    ∙ at_test (name_eq q.name e.0)
    (λ b. cond (b && nat_eq e.1.terminal q.terminal) (Some e.1.count) (find held_cmp q (map lock_of es)) ≡ own_count q.terminal (cond b (Some e.1) (lookup (name_eq q.name) es)))
    (λ is.
    ap (cond (nat_eq e.1.terminal q.terminal) (Some e.1.count))
    (absent q.name es (subst (λ n. AllByRecursion (λ k. name_eq n k ≡ false) (keys_of es)) (sym (is_same q.name e.0 is)) (IsDistinct-head name_eq e.0 (keys_of es) distinct)) q.terminal))
    (λ is. found q es (IsDistinct-tail name_eq e.0 (keys_of es) distinct))

-- what the locks have of a name
pub got : {S : Type 0} (m : IndexMap LockName Holding S) → IsUnique name_eq m → (q : Held) → get (locks_of m) q ≡ own_count q.terminal (index.get name_eq m q.name)
got m unique q = get-from_entries held_cmp_total (map lock_of m.entries) q ∙ found q m.entries unique

pub own_is : (h : Holding) (t : ℕ) → h.terminal ≡ t → own_count t (Some h) ≡ Some h.count
own_is h t is = ap (λ b. cond b (Some h.count) None) (yes h.terminal t is)

pub other_is : (h : Holding) (t : ℕ) → (h.terminal ≡ t → ⊥) → own_count t (Some h) ≡ None
other_is h t is = ap (λ b. cond b (Some h.count) None) (no h.terminal t is)

-- ---- one holding is changed

-- the holding, if there is one, is this terminal's
abbrev pub IsOwn : ℕ → Option Holding → Type 0
IsOwn t None = ⊤
IsOwn t (Some h) = h.terminal ≡ t

abbrev count_of : Option Holding → Option ℕ
count_of o = option_map (λ h. h.count) o

-- what is a terminal's own is the terminal's, and no other's
own_one : (t u : ℕ) (o : Option Holding) → IsOwn t o → own_count u o ≡ cond (nat_eq t u) (count_of o) None
own_one t u o h = grind arith

twice : (b : Bool) (x y : Option ℕ) → cond b x None ≡ cond b x (cond b y None)
twice b x y = grind arith

module _ {S : Type 0} (m n : IndexMap LockName Holding S) (name : LockName) (t : ℕ) (w : Option Holding) (unique : IsUnique name_eq m) (unique' : IsUnique name_eq n) (was : IsOwn t (index.get name_eq m name)) (own : IsOwn t w) (u : Updates name_eq m n name w) where
  at_name : (q : Held) → get (locks_of n) q ≡ cond (name_eq q.name name && nat_eq t q.terminal) (count_of w) (get (locks_of m) q)
  at_name q =
      got n unique' q
      ∙ ap (own_count q.terminal) (u.0 q.name)
      ∙ at_test (name_eq q.name name) (λ b. own_count q.terminal (cond (name_eq name q.name) w (index.get name_eq m q.name)) ≡ cond (b && nat_eq t q.terminal) (count_of w) (get (locks_of m) q))
      (λ is.
      ap (λ c. own_count q.terminal (cond c w (index.get name_eq m q.name))) ((eq_by_cmp_equiv lock_name_cmp_total).symm name q.name ∙ is)
      ∙ own_one t q.terminal w own
      ∙ twice (nat_eq t q.terminal) (count_of w) (count_of (index.get name_eq m name))
      ∙ ap (cond (nat_eq t q.terminal) (count_of w))
      (sym (got m unique q ∙ ap (λ k. own_count q.terminal (index.get name_eq m k)) (is_same q.name name is) ∙ own_one t q.terminal (index.get name_eq m name) was)))
      (λ is. ap (λ c. own_count q.terminal (cond c w (index.get name_eq m q.name))) ((eq_by_cmp_equiv lock_name_cmp_total).symm name q.name ∙ is) ∙ sym (got m unique q))

  updated : (q : Held) → get (locks_of n) q ≡ cond (eq_by_cmp held_cmp q (held t name)) (count_of w) (get (locks_of m) q)
  updated q = at_name q ∙ sym (ap (λ b. cond b (count_of w) (get (locks_of m) q)) (tied (lock_name_cmp q.name name) q (held t name) refl))

  pub inserted : (h : Holding) → w ≡ Some h → locks_of n ≡ insert (locks_of m) (held t name) h.count
  inserted h is = same_map held_cmp_total held_cmp_exact _ _ (λ q. updated q ∙ ap (λ o. cond (eq_by_cmp held_cmp q (held t name)) (count_of o) (get (locks_of m) q)) is ∙ sym (get-insert held_cmp_total (locks_of m) (held t name) h.count q))

  pub removed : w ≡ None → locks_of n ≡ remove (locks_of m) (held t name)
  removed is = same_map held_cmp_total held_cmp_exact _ _ (λ q. updated q ∙ ap (λ o. cond (eq_by_cmp held_cmp q (held t name)) (count_of o) (get (locks_of m) q)) is ∙ sym (get-remove held_cmp_total (locks_of m) (held t name) q))

-- ---- all of a terminal

kept_get : (p : Held → Bool) (l : Locks) (q : Held) → get (retain_keys l p) q ≡ cond (p q) (get l q) None
kept_get p l q = get-retain_keys l p q (λ x t. ap p (sym (held_cmp_exact q x t)))

released_get : (l : Locks) (t : ℕ) (q : Held) → get (released l t) q ≡ cond (not (nat_eq q.terminal t)) (get l q) None
released_get l t q = kept_get (λ h. not (nat_eq h.terminal t)) l q

-- one that the terminal held, and then all of them
pub released_after : (l : Locks) (t : ℕ) (n : LockName) → released (remove l (held t n)) t ≡ released l t
released_after l t n =
    same_map held_cmp_total held_cmp_exact _ _ (λ q.
    released_get (remove l (held t n)) t q
    ∙ at_test (nat_eq q.terminal t) (λ b. cond (not b) (get (remove l (held t n)) q) None ≡ cond (not b) (get l q) None)
    (λ is. refl) (λ is. get-remove held_cmp_total l (held t n) q ∙ ap (λ b. cond b None (get l q)) (apart q is))
    ∙ sym (released_get l t q))
  where
    apart : (q : Held) → nat_eq q.terminal t ≡ false → eq_by_cmp held_cmp q (held t n) ≡ false
    apart q other = grind arith

-- a terminal that holds none has none to give back
pub released_none : {S : Type 0} (m : IndexMap LockName Holding S) (t : ℕ) → IsUnique name_eq m → ((i : ℕ) (e : Entry) → i < length m.entries → slice_get m.entries i ≡ Some e → nat_eq e.1.terminal t ≡ false)
    → locks_of m ≡ released (locks_of m) t
released_none m t unique none =
    same_map held_cmp_total held_cmp_exact _ _
    (λ q.
    at_test (nat_eq q.terminal t) (λ b. get (locks_of m) q ≡ cond (not b) (get (locks_of m) q) None) (λ is. got m unique q ∙ not_held q is (index.get name_eq m q.name) refl) (λ is. refl)
    ∙ sym (released_get (locks_of m) t q))
  where
    differs : (u v : ℕ) → nat_eq u t ≡ false → nat_eq v t ≡ true → u ≡ v → ⊥
    differs u v e f same = let no : false ≡ true = sym e ∙ ap (λ x. nat_eq x t) same ∙ f in absurd (cc)

    not_held : (q : Held) → nat_eq q.terminal t ≡ true → (o : Option Holding) → index.get name_eq m q.name ≡ o → own_count q.terminal o ≡ None
    not_held q is None at = refl
    not_held q is (Some h) at =
        let place = place_from_lookup (name_eq q.name) m.entries h at in
        other_is h q.terminal (differs h.terminal q.terminal (none place.0 (place.1, h) (slice_get_within m.entries place.0 (place.1, h) place.2) place.2) is)

-- ---- counts from 1 to 1,000,000

chosen : (b : Bool) (x y : Option ℕ) (d : ℕ) → (x ≡ Some d → (0 < d) × (d ≤ max_count)) → (y ≡ Some d → (0 < d) × (d ≤ max_count)) → cond b x y ≡ Some d → (0 < d) × (d ≤ max_count)
chosen b x y d h e f = grind arith

pub counts_insert : (l : Locks) (h : Held) (c : ℕ) → AreCounts l → 0 < c → c ≤ max_count → AreCounts (insert l h c)
counts_insert l h c counts some few q d e =
    chosen (eq_by_cmp held_cmp q h) (Some c) (get l q) d (λ is. let same : c ≡ d = cc in (omega (arith, same, some), omega (arith, same, few))) (counts q d) (sym (get-insert held_cmp_total l h c q) ∙ e)

pub counts_remove : (l : Locks) (h : Held) → AreCounts l → AreCounts (remove l h)
counts_remove l h counts q d e = chosen (eq_by_cmp held_cmp q h) None (get l q) d (λ is. absurd (none-some d is)) (counts q d) (sym (get-remove held_cmp_total l h q) ∙ e)

pub counts_released : (l : Locks) (t : ℕ) → AreCounts l → AreCounts (released l t)
counts_released l t counts q d e = chosen (not (nat_eq q.terminal t)) (get l q) None d (counts q d) (λ is. absurd (none-some d is)) (sym (released_get l t q) ∙ e)

pub counts_empty : AreCounts empty
counts_empty q d e = let none : ◌≡◌ {A = Option ℕ} None (Some d) = sym (get-empty held_cmp q) ∙ e in absurd (cc)

pub count_few : (l : Locks) (h : Held) → AreCounts l → count l h ≤ max_count
count_few l h counts = grind arith
