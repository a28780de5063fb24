-- SPDX-License-Identifier: Apache-2.0
-- What is taken, given back and released for a terminal, over the cut to a closed set.
use Rattle.misolation.proofs.IsolationWords.{◌≡◌, ℕ, ◌+◌, ◌-◌, ◌||◌, Bool, true, false, not, List, [], ◌∷◌, Option, Some, None, refl, sym, ap, ◌∙◌, ⊎_elim}
use Rattle.misolation.proofs.IsolationWords.{unwrap_or, option_map, nat_lt, nat_eq, if◌then◌else◌, or_cases, and_parts, eqb-true, bytes_decides, get, insert}
use Rattle.misolation.proofs.IsolationWords.{remove, keys, list_all, list_any, filter, Text, text_eq, Account, Settings, held_cmp_total, held_cmp_exact}
use Rattle.misolation.proofs.IsolationWords.{may_lock, Accounts, IsClosed, is_node_within, LockName, Held, Locks, held, count, max_count, is_within}
use Rattle.misolation.proofs.IsolationWords.{is_conflict, has_conflict, one_more, counted, taken, given_back, released, cut_drops, cut_removed, by_test}
use Rattle.misolation.proofs.IsolationWords.{unopposed, is_member, is_inside, cut_locks, holds_by, may_hold, AreFit}
use Rattle.misolation.proofs.CutMaps.{any_absorbed, get_kept, cut_cut, cut_absorbs, cut_insert, cut_remove, keys_cut, own_cut}
use Rattle.misolation.proofs.Access.{locked_inside, locker_inside}

-- a name below another is the same account's
same_account : (a b : LockName) → is_within a b ≡ true → a.node.account ≡ b.node.account
same_account a b e =
    let below = and_parts _ (is_node_within a.node b.node) e in
    (bytes_decides a.node.account b.node.account).0 (and_parts (text_eq a.node.account b.node.account) _ below.1).0

-- names that exclude each other are one account's
conflict_account : (a b : Held) → is_conflict a b ≡ true → a.name.node.account ≡ b.name.node.account
conflict_account a b e =
    let related = and_parts (not (nat_eq a.terminal b.terminal)) _ e in
    ⊎_elim (λ x. same_account a.name b.name x) (λ x. sym (same_account b.name a.name x)) (or_cases (is_within a.name b.name) _ related.1)

any_agree : {X : Type 0} (c p q : X → Bool) → ((x : X) → c x ≡ true → p x ≡ q x) → (xs : List X) → list_all c xs ≡ true → list_any p xs ≡ list_any q xs
any_agree c p q h [] all = refl
any_agree c p q h (x ∷ xs) all =
    let each = and_parts (c x) _ all in
    ap (λ b. b || list_any p xs) (h x each.0) ∙ ap (λ b. q x || b) (any_agree c p q h xs each.1)

mapped_if : (f : Locks → Locks) (b : Bool) (x y : Option Locks) → x ≡ option_map f y → (if b then x else None) ≡ option_map f (if b then y else None)
mapped_if f true x y e = e
mapped_if f false x y e = refl

mapped_unless : (f : Locks → Locks) (b : Bool) (x y : Option Locks) → x ≡ option_map f y → (if b then None else x) ≡ option_map f (if b then None else y)
mapped_unless f true x y e = refl
mapped_unless f false x y e = e

module _ (s : Accounts) (settings : Settings) where
  abbrev inside : Held → Bool
  inside h = is_inside s settings h.terminal

  -- ---- a terminal of a member

  module _ (t : ℕ) (here : is_inside s settings t ≡ true) where
    count_cut : (locks : Locks) (n : LockName) → count (cut_locks s settings locks) (held t n) ≡ count locks (held t n)
    count_cut locks n = ap (λ o. unwrap_or o 0) (get_kept held_cmp_total held_cmp_exact locks inside (held t n) here)

    one_more_cut : (locks : Locks) (n : LockName) → one_more (cut_locks s settings locks) (held t n) ≡ cut_locks s settings (one_more locks (held t n))
    one_more_cut locks n =
        ap (λ c. insert (cut_locks s settings locks) (held t n) (c + 1)) (count_cut locks n)
        ∙ sym (cut_insert held_cmp_total held_cmp_exact locks inside (held t n) (count locks (held t n) + 1) here)

    counted_cut : (names : List LockName) (locks : Locks) → counted (cut_locks s settings locks) t names ≡ option_map (cut_locks s settings) (counted locks t names)
    counted_cut [] locks = refl
    counted_cut (n ∷ names) locks =
        ap (λ c. if nat_lt c max_count then counted (one_more (cut_locks s settings locks) (held t n)) t names else None) (count_cut locks n)
        ∙ mapped_if (cut_locks s settings) (nat_lt (count locks (held t n)) max_count) _ _ (ap (λ l. counted l t names) (one_more_cut locks n) ∙ counted_cut names (one_more locks (held t n)))

    back_cut : (locks : Locks) (h : Held) (c : ℕ) (b : Bool) → inside h ≡ true
        → (if b then insert (cut_locks s settings locks) h c else remove (cut_locks s settings locks) h) ≡ cut_locks s settings (if b then insert locks h c else remove locks h)
    back_cut locks h c true i = sym (cut_insert held_cmp_total held_cmp_exact locks inside h c i)
    back_cut locks h c false i = sym (cut_remove held_cmp_total held_cmp_exact locks inside h)

    pub given_back_cut : (locks : Locks) (n : LockName) → given_back (cut_locks s settings locks) t n ≡ cut_locks s settings (given_back locks t n)
    given_back_cut locks n =
        ap (λ c. if nat_lt 1 c then insert (cut_locks s settings locks) (held t n) (c - 1) else remove (cut_locks s settings locks) (held t n)) (count_cut locks n)
        ∙ back_cut locks (held t n) (count locks (held t n) - 1) (nat_lt 1 (count locks (held t n))) here

  pub released_cut : (locks : Locks) (t : ℕ) → released (cut_locks s settings locks) t ≡ cut_locks s settings (released locks t)
  released_cut locks t = cut_cut held_cmp_total held_cmp_exact locks inside (λ h. not (nat_eq h.terminal t))

  -- who holds what a member's name conflicts with is a member's terminal
  holder_inside : IsClosed settings s → (n h : Held) → s n.name.node.account ≡ true → may_hold settings h ≡ true → is_conflict n h ≡ true → inside h ≡ true
  holder_inside closed n h m fit e = by_account (get settings.terminals h.terminal) fit
    where
      by_account : (o : Option Account) → holds_by settings o h.name ≡ true → is_member s o ≡ true
      by_account None f = cc
      by_account (Some account) f = locker_inside s settings closed account.name h.name (ap s (sym (conflict_account n h e)) ∙ m) f

  conflict_cut : IsClosed settings s → (locks : Locks) → AreFit settings locks → (n : Held) → s n.name.node.account ≡ true → has_conflict (cut_locks s settings locks) n ≡ has_conflict locks n
  conflict_cut closed locks fit n m =
      let own : keys locks ≡ filter (may_hold settings) (keys locks) =
      ap keys (sym (own_cut held_cmp_total held_cmp_exact locks (may_hold settings) fit)) ∙ keys_cut held_cmp_total held_cmp_exact locks (may_hold settings) in
      ap (list_any (is_conflict n)) (keys_cut held_cmp_total held_cmp_exact locks inside ∙ ap (filter inside) own)
      ∙ any_absorbed (is_conflict n) inside (may_hold settings) (λ h f e. holder_inside closed n h m f e) (keys locks)
      ∙ ap (list_any (is_conflict n)) (sym own)

  pub taken_cut : IsClosed settings s → (t : ℕ) (me : Text) → is_inside s settings t ≡ true → s me ≡ true → (locks : Locks) → AreFit settings locks → (names : List LockName) → list_all (may_lock settings me) names ≡ true
      → taken (cut_locks s settings locks) t names ≡ option_map (cut_locks s settings) (taken locks t names)
  taken_cut closed t me here m locks fit names all =
      let same = any_agree (may_lock settings me) (λ n. has_conflict (cut_locks s settings locks) (held t n)) (λ n. has_conflict locks (held t n))
      (λ n e. conflict_cut closed locks fit (held t n) (locked_inside s settings closed me n m e)) names all in
      ap (λ b. if b then None else counted (cut_locks s settings locks) t names) same
      ∙ mapped_unless (cut_locks s settings) (list_any (λ n. has_conflict locks (held t n)) names) _ _ (counted_cut t here names locks)

  -- ---- a terminal of another

  module _ (t : ℕ) (away : is_inside s settings t ≡ false) where
    unseen : (names : List LockName) (locks after : Locks) (b : Bool) → (counted locks t names ≡ Some after → cut_locks s settings after ≡ cut_locks s settings locks) → (if b then counted locks t names else None) ≡ Some after → cut_locks s settings after ≡ cut_locks s settings locks
    unseen names locks after true later e = later e
    unseen names locks after false later e = absurd (cc)

    counted_outside : (names : List LockName) (locks after : Locks) → counted locks t names ≡ Some after → cut_locks s settings after ≡ cut_locks s settings locks
    counted_outside [] locks after e = ap (λ o. cut_locks s settings (unwrap_or o locks)) (sym e)
    counted_outside (n ∷ names) locks after e =
        let more = one_more locks (held t n) in
        unseen names more after (nat_lt (count locks (held t n)) max_count) (counted_outside names more after) e
        ∙ cut_drops held_cmp_total held_cmp_exact locks inside (held t n) (count locks (held t n) + 1) away

    pub taken_outside : (names : List LockName) (locks after : Locks) → taken locks t names ≡ Some after → cut_locks s settings after ≡ cut_locks s settings locks
    taken_outside names locks after e = counted_outside names locks after (unopposed (list_any (λ n. has_conflict locks (held t n)) names) (counted locks t names) after e)

    back_outside : (locks : Locks) (n : LockName) (c : ℕ) (b : Bool) → cut_locks s settings (if b then insert locks (held t n) c else remove locks (held t n)) ≡ cut_locks s settings locks
    back_outside locks n c true = cut_drops held_cmp_total held_cmp_exact locks inside (held t n) c away
    back_outside locks n c false = cut_removed held_cmp_total held_cmp_exact locks inside (held t n) away

    pub given_back_outside : (locks : Locks) (n : LockName) → cut_locks s settings (given_back locks t n) ≡ cut_locks s settings locks
    given_back_outside locks n = back_outside locks n (count locks (held t n) - 1) (nat_lt 1 (count locks (held t n)))

    -- another terminal than this
    pub is_other : (q : ℕ) → is_inside s settings q ≡ true → not (nat_eq q t) ≡ true
    is_other q h = by_test (nat_eq q t) (λ e. let no : true ≡ false = sym h ∙ ap (is_inside s settings) (eqb-true q t e) ∙ away in absurd (cc)) (λ e. ap not e)

    pub released_outside : (locks : Locks) → cut_locks s settings (released locks t) ≡ cut_locks s settings locks
    released_outside locks = cut_absorbs held_cmp_total held_cmp_exact locks (λ h. not (nat_eq h.terminal t)) inside (λ h i. is_other h.terminal i)
