-- SPDX-License-Identifier: Apache-2.0
-- Lines of several terminals, one after another, and the maps of locks and sessions that they leave: for examples of LOCK and HALT.
use Rattle.mmeaning.proofs.MeaningWords.{◌≡◌, ℕ, Bool, true, false, cond, List, [], ◌∷◌, Option, Some, None, refl, sym, ap, ◌∙◌, codes, not, map, eq_by_cmp}
use Rattle.mmeaning.proofs.MeaningWords.{Plan, Ask, Take, Give_back, Release, perform, Ops, LineTree, line_in, Completion, Session, World, Event, Reply, Halted}
use Rattle.mmeaning.proofs.MeaningWords.{normal, replies, get, insert, empty, entries, remove, retain_keys, get-insert, get-remove, get-empty, entries-insert}
use Rattle.mmeaning.proofs.MeaningWords.{same_map, FinMap, nat_cmp, nat_cmp_total, Account, LockName, Locks, Held, held_cmp, Read, Text, Outcome, no_locals}
use Rattle.mmeaning.proofs.MeaningWords.{equal_of, get_cut, cut_drops, entries_none, Shared, act, Inside, inside, home}
use Rattle.std.specs.FinMap.Entries.{put}
use Rattle.mspec.specs.Access.{Settings}
use Rattle.mspec.proofs.LockOrders.{held_cmp_total, held_cmp_exact}
use Rattle.mmeaning.proofs.ExampleAccount.{account_named}
use Rattle.mmeaning.proofs.LineRuns.{language_of, shut_step, step_is_shut}

-- ALICE has terminals 1 and 2, and BOB terminal 3; she lets him read her X
abbrev pub lending : Settings
lending = record {
  accounts = account_named (codes "ALICE") ∷ account_named (codes "BOB") ∷ [];
  terminals = insert (insert (insert empty 1 (account_named (codes "ALICE"))) 2 (account_named (codes "ALICE"))) 3 (account_named (codes "BOB"));
  grants = record { from = codes "ALICE"; to = codes "BOB"; global = codes "X"; mode = Read } ∷ [];
}

-- what she and he may do at their terminals, and a line of each
abbrev pub hers : Ops Shared
hers = act lending 1 (codes "ALICE")

abbrev pub his : Ops Shared
his = act lending 3 (codes "BOB")

abbrev pub her_line : Inside
her_line = inside (codes "ALICE") 9 (record { levels = 0; indirections = 0; wants_value = false })

abbrev pub his_line : Inside
his_line = inside (codes "BOB") 9 (record { levels = 0; indirections = 0; wants_value = false })

abbrev pub line_of : ℕ × Text → Event
line_of l = record { terminal = l.0; text = l.1 }

-- what lines are answered in a world
pub record AreReplied (world : World) (ls : List (ℕ × Text)) (rs : List Reply) : Type 0 where
  pub answers : replies lending world (map line_of ls) ≡ rs

-- at each terminal lines are read as the profile's
profile_is : (b : Bool) (a : Account) (o : Option Account) → a.language ≡ 0 → language_of o ≡ 0 → language_of (cond b (Some a) o) ≡ 0
profile_is true a o e h = e
profile_is false a o e h = h

-- one more terminal of such an account
terminal_more : (m : FinMap nat_cmp Account) (k : ℕ) (a : Account) (t : ℕ) → a.language ≡ 0 → language_of (get m t) ≡ 0 → language_of (get (insert m k a) t) ≡ 0
terminal_more m k a t e h = ap language_of (get-insert nat_cmp_total m k a t) ∙ profile_is (eq_by_cmp nat_cmp t k) a (get m t) e h

lending_language : (t : ℕ) → language_of (get lending.terminals t) ≡ 0
lending_language t =
    terminal_more (insert (insert empty 1 (account_named (codes "ALICE"))) 2 (account_named (codes "ALICE"))) 3 (account_named (codes "BOB")) t refl
    (terminal_more (insert empty 1 (account_named (codes "ALICE"))) 2 (account_named (codes "ALICE")) t refl
    (terminal_more empty 1 (account_named (codes "ALICE")) t refl (ap language_of (get-empty nat_cmp t))))

line_is : (world : World) (l : ℕ × Text) (tree : Option LineTree) → line_in 0 l.1 ≡ tree → normal lending (line_of l) world ≡ shut_step lending (line_of l) tree world
line_is world l tree e =
    step_is_shut lending (line_of l) world ∙ ap (λ t. shut_step lending (line_of l) t world) (ap (λ n. line_in n l.1) (lending_language l.0) ∙ e)

pub replied_last : {world : World} {l : ℕ × Text} {r : Reply} (tree : Option LineTree) → line_in 0 l.1 ≡ tree → (shut_step lending (line_of l) tree world).0 ≡ r → AreReplied world (l ∷ []) (r ∷ [])
replied_last {world = world} {l = l} tree e run = record {
  answers = ap (λ (x : Reply × World). x.0 ∷ []) (line_is world l tree e) ∙ ap (λ (r : Reply). r ∷ []) run;
}

-- a line, and then those after it in the world that it leaves
pub replied_first : {world : World} {l : ℕ × Text} {r : Reply} {ls : List (ℕ × Text)} {rs : List Reply} (after : World) (tree : Option LineTree)
    → line_in 0 l.1 ≡ tree → shut_step lending (line_of l) tree world ≡ (r, after) → AreReplied after ls rs → AreReplied world (l ∷ ls) (r ∷ rs)
replied_first {world = world} {l = l} {r = r} {ls = ls} after tree e first rest = record {
  answers =
      ap (λ (x : Reply × World). x.0 ∷ replies lending x.1 (map line_of ls)) (line_is world l tree e ∙ first)
      ∙ ap (λ (rs : List Reply). r ∷ rs) rest.answers;
}

-- ---- a session without variables, and the reply if a line halts

abbrev pub plain_session : Bool → Session
plain_session test = record { locals = no_locals; naked = None; test = test; cursor = home }

abbrev pub halted : Reply
halted = record { out = []; ending = Halted }

-- ---- what is asked of locks, an operation at a time

module _ (settings : Settings) (terminal : ℕ) (me : Text) (w : Shared) where
  pub takes : (ns : List LockName) (k : Bool → Plan (Outcome Completion)) → perform (act settings terminal me) (Ask (Take ns) k) w ≡ perform (act settings terminal me) (k (act settings terminal me (Take ns) w).0) (act settings terminal me (Take ns) w).1
  takes ns k = refl

  pub gives_back : (n : LockName) (k : Unit {0} → Plan (Outcome Completion)) → perform (act settings terminal me) (Ask (Give_back n) k) w ≡ perform (act settings terminal me) (k tt) (act settings terminal me (Give_back n) w).1
  gives_back n k = refl

  pub releases : (k : Unit {0} → Plan (Outcome Completion)) → perform (act settings terminal me) (Ask Release k) w ≡ perform (act settings terminal me) (k tt) (act settings terminal me Release w).1
  releases k = refl

-- ---- maps of locks

-- a key that passes the test stays
kept_there : (b t : Bool) (v g : Option ℕ) → (t ≡ true → b ≡ true) → cond b (cond t v g) None ≡ cond t v (cond b g None)
kept_there true t v g h = refl
kept_there false true v g h = let no : false ≡ true = h refl in absurd (cc)
kept_there false false v g h = refl

cut_put : (m : Locks) (p : Held → Bool) (k : Held) (v : ℕ) (b : Bool) → p k ≡ b → retain_keys (insert m k v) p ≡ cond b (insert (retain_keys m p) k v) (retain_keys m p)
cut_put m p k v true h = same_map held_cmp_total held_cmp_exact _ _ (λ q.
    get_cut held_cmp_total held_cmp_exact (insert m k v) p q ∙ ap (λ g. cond (p q) g None) (get-insert held_cmp_total m k v q)
    ∙ kept_there (p q) (eq_by_cmp held_cmp q k) (Some v) (get m q) (λ e. ap p (held_cmp_exact q k (equal_of (held_cmp q k) e)) ∙ h)
    ∙ ap (cond (eq_by_cmp held_cmp q k) (Some v)) (sym (get_cut held_cmp_total held_cmp_exact m p q)) ∙ sym (get-insert held_cmp_total (retain_keys m p) k v q))
cut_put m p k v false h = cut_drops held_cmp_total held_cmp_exact m p k v h

neither : (b : Bool) → ◌≡◌ {A = Option ℕ} (cond b None None) None
neither true = refl
neither false = refl

again : (b : Bool) (u v g : Option ℕ) → cond b v (cond b u g) ≡ cond b v g
again true u v g = refl
again false u v g = refl

pub no_lock : (q : Held) → get (empty {X = ℕ} {R = held_cmp}) q ≡ None
no_lock q = get-empty held_cmp q

pub lock_put : (m : Locks) (k : Held) (n : ℕ) (q : Held) → get (insert m k n) q ≡ cond (eq_by_cmp held_cmp q k) (Some n) (get m q)
lock_put m k n q = get-insert held_cmp_total m k n q

pub no_locks : entries (empty {X = ℕ} {R = held_cmp}) ≡ []
no_locks = entries_none held_cmp

pub locks_put : (m : Locks) (k : Held) (n : ℕ) → entries (insert m k n) ≡ put held_cmp k n (entries m)
locks_put m k n = entries-insert held_cmp_total m k n

pub lock_again : (m : Locks) (k : Held) (n p : ℕ) → insert (insert m k n) k p ≡ insert m k p
lock_again m k n p = same_map held_cmp_total held_cmp_exact _ _ (λ q.
    get-insert held_cmp_total (insert m k n) k p q ∙ ap (cond (eq_by_cmp held_cmp q k) (Some p)) (get-insert held_cmp_total m k n q)
    ∙ again (eq_by_cmp held_cmp q k) (Some n) (Some p) (get m q) ∙ sym (get-insert held_cmp_total m k p q))

pub locks_cut : (m : Locks) (p : Held → Bool) (k : Held) (n : ℕ) → retain_keys (insert m k n) p ≡ cond (p k) (insert (retain_keys m p) k n) (retain_keys m p)
locks_cut m p k n = cut_put m p k n (p k) refl

pub no_locks_cut : (p : Held → Bool) → retain_keys (empty {X = ℕ} {R = held_cmp}) p ≡ empty
no_locks_cut p = same_map held_cmp_total held_cmp_exact _ _ (λ q.
    get_cut held_cmp_total held_cmp_exact empty p q ∙ ap (λ g. cond (p q) g None) (get-empty held_cmp q) ∙ neither (p q) ∙ sym (get-empty held_cmp q))

other_than : (b : Bool) (g : Option ℕ) → cond b None g ≡ cond (not b) g None
other_than true g = refl
other_than false g = refl

pub lock_removed : (m : Locks) (k : Held) → remove m k ≡ retain_keys m (λ x. not (eq_by_cmp held_cmp x k))
lock_removed m k = same_map held_cmp_total held_cmp_exact _ _ (λ q.
    get-remove held_cmp_total m k q ∙ other_than (eq_by_cmp held_cmp q k) (get m q) ∙ sym (get_cut held_cmp_total held_cmp_exact m (λ x. not (eq_by_cmp held_cmp x k)) q))

pub ruleset computed_locks = (lock_removed, takes, gives_back, releases, no_lock, lock_put, no_locks, locks_put, lock_again, locks_cut, no_locks_cut)
