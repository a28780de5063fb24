-- SPDX-License-Identifier: Apache-2.0
-- How a line ends, over the cut: the only place that reads what becomes of a session.
use Rattle.misolation.proofs.IsolationWords.{◌≡◌, ℕ, true, false, sym, ap, ◌∙◌, FinMap, insert, remove, retain_keys, nat_cmp-IsAntisymmetric, nat_cmp}
use Rattle.misolation.proofs.IsolationWords.{nat_cmp_total, Settings, State, Outcome, Completion, Shared, Accounts, is_inside, cut_shared, cut_world, IsFit}
use Rattle.misolation.proofs.IsolationWords.{cut_drops, cut_removed, Session, World, Ending, Finished, Halted, Faulted, settled, ended, kept, state_of}
use Rattle.misolation.proofs.IsolationWords.{reply_of}
use Rattle.misolation.proofs.CutMaps.{cut_insert, cut_remove}
use Rattle.misolation.proofs.FittingLocks.{released_fits}
use Rattle.misolation.proofs.LockCuts.{released_cut, released_outside}

abbrev Sessions : Type 0
Sessions = FinMap nat_cmp Session

module _ (s : Accounts) (settings : Settings) where
  -- ---- sessions

  kept_inside : (sessions : Sessions) (t : ℕ) (x : Session) → is_inside s settings t ≡ true → insert (retain_keys sessions (is_inside s settings)) t x ≡ retain_keys (insert sessions t x) (is_inside s settings)
  kept_inside sessions t x here = sym (cut_insert nat_cmp_total nat_cmp-IsAntisymmetric sessions (is_inside s settings) t x here)

  pub gone_inside : (sessions : Sessions) (t : ℕ) → remove (retain_keys sessions (is_inside s settings)) t ≡ retain_keys (remove sessions t) (is_inside s settings)
  gone_inside sessions t = sym (cut_remove nat_cmp_total nat_cmp-IsAntisymmetric sessions (is_inside s settings) t)

  kept_outside : (sessions : Sessions) (t : ℕ) (x : Session) → is_inside s settings t ≡ false → retain_keys (insert sessions t x) (is_inside s settings) ≡ retain_keys sessions (is_inside s settings)
  kept_outside sessions t x away = cut_drops nat_cmp_total nat_cmp-IsAntisymmetric sessions (is_inside s settings) t x away

  pub gone_outside : (sessions : Sessions) (t : ℕ) → is_inside s settings t ≡ false → retain_keys (remove sessions t) (is_inside s settings) ≡ retain_keys sessions (is_inside s settings)
  gone_outside sessions t away = cut_removed nat_cmp_total nat_cmp-IsAntisymmetric sessions (is_inside s settings) t away

  -- ---- ends of lines

  settled_inside : (t : ℕ) → is_inside s settings t ≡ true → (world : World) (ending : Ending) (state : State) (w : Shared)
      → settled t (cut_world s settings world) ending state (cut_shared s settings w) ≡ cut_world s settings (settled t world ending state w)
  settled_inside t here world Finished state w = λ i. record { shared = cut_shared s settings w; sessions = kept_inside world.sessions t (kept state) here i }
  settled_inside t here world (Faulted fault) state w = λ i. record { shared = cut_shared s settings w; sessions = kept_inside world.sessions t (kept state) here i }
  settled_inside t here world Halted state w = λ i. record {
    shared = record { globals = (cut_shared s settings w).globals; locks = released_cut s settings w.locks t i };
    sessions = gone_inside world.sessions t i;
  }

  pub ended_inside : (t : ℕ) → is_inside s settings t ≡ true → (world : World) (o : Outcome Completion) (w : Shared)
      → ended t (cut_world s settings world) (o, cut_shared s settings w) ≡ ((ended t world (o, w)).0, cut_world s settings (ended t world (o, w)).1)
  ended_inside t here world o w = λ i. (reply_of o, settled_inside t here world (reply_of o).ending (state_of o) w i)

  settled_outside : (t : ℕ) → is_inside s settings t ≡ false → (world : World) (ending : Ending) (state : State) (w : Shared) → cut_shared s settings w ≡ cut_shared s settings world.shared
      → cut_world s settings (settled t world ending state w) ≡ cut_world s settings world
  settled_outside t away world Finished state w same = λ i. record { shared = same i; sessions = kept_outside world.sessions t (kept state) away i }
  settled_outside t away world (Faulted fault) state w same = λ i. record { shared = same i; sessions = kept_outside world.sessions t (kept state) away i }
  settled_outside t away world Halted state w same =
      let locks = released_outside s settings t away w.locks ∙ ap (λ v. v.locks) same in
      λ i. record { shared = record { globals = (same i).globals; locks = locks i }; sessions = gone_outside world.sessions t away i }

  pub ended_outside : (t : ℕ) → is_inside s settings t ≡ false → (world : World) (o : Outcome Completion) (w : Shared) → cut_shared s settings w ≡ cut_shared s settings world.shared
      → cut_world s settings (ended t world (o, w)).1 ≡ cut_world s settings world
  ended_outside t away world o w same = settled_outside t away world (reply_of o).ending (state_of o) w same

-- fitting locks stay
settled_fits : (settings : Settings) (t : ℕ) (world : World) (ending : Ending) (state : State) (w : Shared) → IsFit settings w → IsFit settings (settled t world ending state w).shared
settled_fits settings t world Finished state w fit = fit
settled_fits settings t world (Faulted fault) state w fit = fit
settled_fits settings t world Halted state w fit = released_fits settings w.locks t fit

pub ended_fits : (settings : Settings) (t : ℕ) (world : World) (o : Outcome Completion) (w : Shared) → IsFit settings w → IsFit settings (ended t world (o, w)).1.shared
ended_fits settings t world o w fit = settled_fits settings t world (reply_of o).ending (state_of o) w fit
