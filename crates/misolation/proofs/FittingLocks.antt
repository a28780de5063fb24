-- SPDX-License-Identifier: Apache-2.0
-- Locks that fit stay so, whatever is done for a terminal of the settings.
use Rattle.misolation.proofs.IsolationWords.{◌≡◌, ℕ, ◌+◌, ◌-◌, Bool, true, false, cond, List, [], ◌∷◌, Option, Some, None, refl, sym, ap, ◌∙◌, subst, unwrap_or}
use Rattle.misolation.proofs.IsolationWords.{nat_lt, nat_eq, if◌then◌else◌, and_parts, get, insert, remove, retain_keys, get-insert, get-remove, list_all}
use Rattle.misolation.proofs.IsolationWords.{list_any, eq_by_cmp, Account, Settings, held_cmp_total, held_cmp_exact, may_lock, LockName, Held, held_cmp, Locks}
use Rattle.misolation.proofs.IsolationWords.{held, count, max_count, has_conflict, one_more, counted, taken, given_back, released, by_test, unopposed, holds_by}
use Rattle.misolation.proofs.IsolationWords.{may_hold, AreFit}
use Rattle.std.specs.Prelude.{not}
use Rattle.misolation.proofs.CutMaps.{tied_true, had}

module _ (settings : Settings) where
  pub fit_insert : (locks : Locks) (h : Held) (k : ℕ) → may_hold settings h ≡ true → AreFit settings locks → AreFit settings (insert locks h k)
  fit_insert locks h k here fit q c e = by_test (eq_by_cmp held_cmp q h)
      (λ tie. tied_true held_cmp_exact (may_hold settings) h q here tie)
      (λ apart. fit q c (sym (get-insert held_cmp_total locks h k q ∙ ap (λ b. cond b (Some k) (get locks q)) apart) ∙ e))

  pub fit_cut : (locks : Locks) (p : Held → Bool) → AreFit settings locks → AreFit settings (retain_keys locks p)
  fit_cut locks p fit q c e = fit q c (had held_cmp_total held_cmp_exact locks p q c e).1

  fit_remove : (locks : Locks) (h : Held) → AreFit settings locks → AreFit settings (remove locks h)
  fit_remove locks h fit q c e = by_test (eq_by_cmp held_cmp q h)
      (λ tie. let none : None ≡ Some c = sym (get-remove held_cmp_total locks h q ∙ ap (λ b. cond b None (get locks q)) tie) ∙ e in absurd (cc))
      (λ apart. fit q c (sym (get-remove held_cmp_total locks h q ∙ ap (λ b. cond b None (get locks q)) apart) ∙ e))

  -- what is held is held as it may be
  held_fits : (locks : Locks) (h : Held) → AreFit settings locks → nat_lt 1 (count locks h) ≡ true → may_hold settings h ≡ true
  held_fits locks h fit e = one (get locks h) refl e
    where
      one : (o : Option ℕ) → get locks h ≡ o → nat_lt 1 (unwrap_or o 0) ≡ true → may_hold settings h ≡ true
      one None is e = absurd (cc)
      one (Some n) is e = fit h n is

  back_fits : (locks : Locks) (h : Held) → AreFit settings locks → (b : Bool) → nat_lt 1 (count locks h) ≡ b → AreFit settings (if b then insert locks h (count locks h - 1) else remove locks h)
  back_fits locks h fit true e = fit_insert locks h (count locks h - 1) (held_fits locks h fit e) fit
  back_fits locks h fit false e = fit_remove locks h fit

  pub given_back_fits : (locks : Locks) (t : ℕ) (n : LockName) → AreFit settings locks → AreFit settings (given_back locks t n)
  given_back_fits locks t n fit = back_fits locks (held t n) fit (nat_lt 1 (count locks (held t n))) refl

  pub released_fits : (locks : Locks) (t : ℕ) → AreFit settings locks → AreFit settings (released locks t)
  released_fits locks t fit = fit_cut locks (λ h. not (nat_eq h.terminal t)) fit

  module _ (t : ℕ) (account : Account) (known : get settings.terminals t ≡ Some account) where
    one_fits : (names : List LockName) (locks after : Locks) (b : Bool) → (counted locks t names ≡ Some after → AreFit settings after) → (if b then counted locks t names else None) ≡ Some after → AreFit settings after
    one_fits names locks after true later e = later e
    one_fits names locks after false later e = absurd (cc)

    counted_fits : (names : List LockName) (locks after : Locks) → list_all (may_lock settings account.name) names ≡ true → AreFit settings locks → counted locks t names ≡ Some after → AreFit settings after
    counted_fits [] locks after all fit e = subst (AreFit settings) (ap (λ o. unwrap_or o locks) e) fit
    counted_fits (n ∷ names) locks after all fit e =
        let each = and_parts (may_lock settings account.name n) _ all in
        let here : may_hold settings (held t n) ≡ true = ap (λ o. holds_by settings o n) known ∙ each.0 in
        one_fits names (one_more locks (held t n)) after (nat_lt (count locks (held t n)) max_count)
        (counted_fits names (one_more locks (held t n)) after each.1 (fit_insert locks (held t n) (count locks (held t n) + 1) here fit)) e

    pub taken_fits : (names : List LockName) (locks after : Locks) → list_all (may_lock settings account.name) names ≡ true → AreFit settings locks → taken locks t names ≡ Some after → AreFit settings after
    taken_fits names locks after all fit e =
        counted_fits names locks after all fit (unopposed (list_any (λ n. has_conflict locks (held t n)) names) (counted locks t names) after e)
