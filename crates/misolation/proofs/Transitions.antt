-- SPDX-License-Identifier: Apache-2.0
-- The two laws for transitions.
use Rattle.misolation.proofs.IsolationWords.{◌≡◌, ℕ, Bool, true, false, Option, Some, None, refl, sym, ap, ◌∙◌, subst, not, ◌||◌, List, [], ◌∷◌, if◌then◌else◌}
use Rattle.misolation.proofs.IsolationWords.{FinMap, get, retain_keys, nat_cmp-IsAntisymmetric, nat_cmp, nat_cmp_total, Text, Account, Settings, Write, Outcome}
use Rattle.misolation.proofs.IsolationWords.{Op, Put, Kill, Plan, perform, cut_short, line_in, Completion, act, Accounts, IsClosed, is_member, is_inside}
use Rattle.misolation.proofs.IsolationWords.{cut_settings, cut_locks, cut_shared, cut_world, AreFit, IsFit, flat_map, Session, session_or_new, World, Event}
use Rattle.misolation.proofs.IsolationWords.{Reply, plan_of, ended, is_too_long, is_ascii, at_tree, checked, at_account, normal, FailedTransition, is_failure}
use Rattle.misolation.proofs.IsolationWords.{TransitionBy, Exchange, exchanges, Actor, ops_of, cut_ops, InsidePlan, OutsidePlan, GlobalWrite, Puts, Kills}
use Rattle.misolation.proofs.IsolationWords.{write_of, writes, exchanges_by, line_exchanges, writes_by, line_writes, InsideTransition, InsideTransitions}
use Rattle.misolation.proofs.IsolationWords.{OutsideTransition, OutsideTransitions, TransitionsKeepFit, TransitionsAreIsolated}
use Rattle.misolation.proofs.Access.{may_cut}
use Rattle.misolation.proofs.TransitionsWrite.{transitions_write}
use Rattle.misolation.proofs.CutMaps.{get_kept}
use Rattle.misolation.proofs.FittingLocks.{released_fits}
use Rattle.misolation.proofs.LockCuts.{released_cut, released_outside}
use Rattle.misolation.proofs.PlansInside.{inside_plans, outside_plans, plans_keep_fit}
use Rattle.misolation.proofs.Endings.{gone_inside, gone_outside, ended_inside, ended_outside, ended_fits}

-- the plan of a line, in the session that its terminal has or in a new one
abbrev plan_in : Event → Account → Option Session → Plan (Outcome Completion)
plan_in e account session = plan_of e.terminal account (session_or_new session) (line_in account.language e.text)

-- who sends a line
abbrev sender : (settings : Settings) (e : Event) (account : Account) → get settings.terminals e.terminal ≡ Some account → Actor
sender settings e account known = record { settings = settings; terminal = e.terminal; account = account; known = known }

nat_kept : {X : Type 0} (m : FinMap nat_cmp X) (p : ℕ → Bool) (t : ℕ) → p t ≡ true → get (retain_keys m p) t ≡ get m t
nat_kept m p t h = get_kept nat_cmp_total nat_cmp-IsAntisymmetric m p t h

module _ (s : Accounts) (settings : Settings) (e : Event) (world : World) where
  -- ---- a member's terminal

  tree_inside : (account : Account) → get settings.terminals e.terminal ≡ Some account → IsClosed settings s → IsFit settings world.shared → is_inside s settings e.terminal ≡ true
      → at_tree (cut_settings s settings) e (cut_world s settings world) account ≡ ((at_tree settings e world account).0, cut_world s settings (at_tree settings e world account).1)
  tree_inside account known closed fit here =
      let b : Actor = sender settings e account known in
      let member : s account.name ≡ true = sym (ap (is_member s) known) ∙ here in
      let p : Plan (Outcome Completion) = plan_in e account (get world.sessions e.terminal) in
      let inside : InsidePlan s b p world.shared = inside_plans s b p world.shared closed member fit in
      ap (λ o. ended e.terminal (cut_world s settings world) (perform (cut_ops s b) (plan_in e account o) (cut_shared s settings world.shared)))
      (nat_kept world.sessions (is_inside s settings) e.terminal here)
      ∙ (λ i. ended e.terminal (cut_world s settings world) (inside.outcome i, inside.shared i))
      ∙ ended_inside s settings e.terminal here world (perform (ops_of b) p world.shared).0 (perform (ops_of b) p world.shared).1

  checked_inside : (long ascii : Bool) (account : Account) → get settings.terminals e.terminal ≡ Some account → IsClosed settings s → IsFit settings world.shared → is_inside s settings e.terminal ≡ true
      → checked long ascii (cut_settings s settings) e (cut_world s settings world) account ≡ ((checked long ascii settings e world account).0, cut_world s settings (checked long ascii settings e world account).1)
  checked_inside true ascii account known closed fit here = refl
  checked_inside false false account known closed fit here = refl
  checked_inside false true account known closed fit here = tree_inside account known closed fit here

  account_inside : (o : Option Account) → get settings.terminals e.terminal ≡ o → IsClosed settings s → IsFit settings world.shared → is_inside s settings e.terminal ≡ true
      → at_account (cut_settings s settings) e (cut_world s settings world) o ≡ ((at_account settings e world o).0, cut_world s settings (at_account settings e world o).1)
  account_inside None known closed fit here = refl
  account_inside (Some account) known closed fit here = checked_inside (is_too_long e.text) (is_ascii e.text) account known closed fit here

  pub normal_inside : IsClosed settings s → IsFit settings world.shared → is_inside s settings e.terminal ≡ true
      → normal (cut_settings s settings) e (cut_world s settings world) ≡ ((normal settings e world).0, cut_world s settings (normal settings e world).1)
  normal_inside closed fit here =
      ap (at_account (cut_settings s settings) e (cut_world s settings world)) (nat_kept settings.terminals (is_inside s settings) e.terminal here)
      ∙ account_inside (get settings.terminals e.terminal) refl closed fit here

  run_inside : (account : Account) → get settings.terminals e.terminal ≡ Some account → IsClosed settings s → IsFit settings world.shared → is_inside s settings e.terminal ≡ true
      → exchanges (act (cut_settings s settings) e.terminal account.name) (plan_in e account (get (retain_keys world.sessions (is_inside s settings)) e.terminal)) (cut_shared s settings world.shared)
      ≡ exchanges (act settings e.terminal account.name) (plan_in e account (get world.sessions e.terminal)) world.shared
  run_inside account known closed fit here =
      let b : Actor = sender settings e account known in
      let member : s account.name ≡ true = sym (ap (is_member s) known) ∙ here in
      let inside : InsidePlan s b (plan_in e account (get world.sessions e.terminal)) world.shared = inside_plans s b (plan_in e account (get world.sessions e.terminal)) world.shared closed member fit in
      ap (λ o. exchanges (cut_ops s b) (plan_in e account o) (cut_shared s settings world.shared)) (nat_kept world.sessions (is_inside s settings) e.terminal here)
      ∙ inside.exchanges

  asked_inside : (o : Option Account) → get settings.terminals e.terminal ≡ o → IsClosed settings s → IsFit settings world.shared → is_inside s settings e.terminal ≡ true
      → exchanges_by (cut_settings s settings) e (cut_world s settings world) o ≡ exchanges_by settings e world o
  asked_inside None known closed fit here = refl
  asked_inside (Some account) known closed fit here = ap (λ xs. if is_too_long e.text || not (is_ascii e.text) then [] else xs) (run_inside account known closed fit here)

  pub exchanges_inside : IsClosed settings s → IsFit settings world.shared → is_inside s settings e.terminal ≡ true
      → line_exchanges (cut_settings s settings) e (cut_world s settings world) ≡ line_exchanges settings e world
  exchanges_inside closed fit here =
      ap (exchanges_by (cut_settings s settings) e (cut_world s settings world)) (nat_kept settings.terminals (is_inside s settings) e.terminal here)
      ∙ asked_inside (get settings.terminals e.terminal) refl closed fit here

  -- and so are the writes among them, since what a member may write is the same
  writes_among : (me : Text) → IsClosed settings s → s me ≡ true → (op : Op) → write_of (cut_settings s settings) me op ≡ write_of settings me op
  writes_among me closed m (Put n t) = ap (λ b. if b then Puts n t ∷ [] else []) (may_cut s settings closed me n.account n.name Write m)
  writes_among me closed m (Kill n) = ap (λ b. if b then Kills n ∷ [] else []) (may_cut s settings closed me n.account n.name Write m)
  writes_among me closed m op = refl

  written_inside : (o : Option Account) → get settings.terminals e.terminal ≡ o → IsClosed settings s → IsFit settings world.shared → is_inside s settings e.terminal ≡ true
      → writes_by (cut_settings s settings) e (cut_world s settings world) o ≡ writes_by settings e world o
  written_inside None known closed fit here = refl
  written_inside (Some account) known closed fit here =
      ap (λ (f : Op → List GlobalWrite). flat_map (λ (x : Exchange). f x.op) (exchanges_by (cut_settings s settings) e (cut_world s settings world) (Some account)))
      (λ i op. writes_among account.name closed (sym (ap (is_member s) known) ∙ here) op i)
      ∙ ap (writes settings account.name) (asked_inside (Some account) known closed fit here)

  pub writes_inside : IsClosed settings s → IsFit settings world.shared → is_inside s settings e.terminal ≡ true
      → line_writes (cut_settings s settings) e (cut_world s settings world) ≡ line_writes settings e world
  writes_inside closed fit here =
      ap (writes_by (cut_settings s settings) e (cut_world s settings world)) (nat_kept settings.terminals (is_inside s settings) e.terminal here)
      ∙ written_inside (get settings.terminals e.terminal) refl closed fit here

  pub failed_inside : IsClosed settings s → IsFit settings world.shared → is_inside s settings e.terminal ≡ true → (after : World) → FailedTransition settings e world after
      → FailedTransition (cut_settings s settings) e (cut_world s settings world) (cut_world s settings after)
  failed_inside closed fit here after f =
      let b : Actor = sender settings e f.account f.known in
      let member : s f.account.name ≡ true = sym (ap (is_member s) f.known) ∙ here in
      let p : Plan (Outcome Completion) = plan_in e f.account (get world.sessions e.terminal) in
      let inside : InsidePlan s b p world.shared = inside_plans s b p world.shared closed member fit in
      record {
        account = f.account;
        known = nat_kept settings.terminals (is_inside s settings) e.terminal here ∙ f.known;
        short = f.short;
        ascii = f.ascii;
        operations = f.operations;
        globals =
            ap (λ g. retain_keys g (λ n. s n.account)) f.globals
            ∙ sym (ap (λ o. (cut_short (cut_ops s b) f.operations (plan_in e f.account o) (cut_shared s settings world.shared)).globals) (nat_kept world.sessions (is_inside s settings) e.terminal here)
            ∙ ap (λ w. w.globals) (inside.short f.operations));
        locks = ap (cut_locks s settings) f.locks ∙ sym (released_cut s settings world.shared.locks e.terminal);
        sessions = ap (λ l. retain_keys l (is_inside s settings)) f.sessions ∙ sym (gone_inside s settings world.sessions e.terminal);
      }

  -- ---- another's terminal

  tree_outside : (account : Account) → get settings.terminals e.terminal ≡ Some account → IsClosed settings s → is_inside s settings e.terminal ≡ false
      → cut_world s settings (at_tree settings e world account).1 ≡ cut_world s settings world
  tree_outside account known closed away =
      let b : Actor = sender settings e account known in
      let outsider : s account.name ≡ false = sym (ap (is_member s) known) ∙ away in
      let p : Plan (Outcome Completion) = plan_in e account (get world.sessions e.terminal) in
      let outside : OutsidePlan s b p world.shared = outside_plans s b p world.shared closed outsider in
      ended_outside s settings e.terminal away world (perform (ops_of b) p world.shared).0 (perform (ops_of b) p world.shared).1 outside.shared

  checked_outside : (long ascii : Bool) (account : Account) → get settings.terminals e.terminal ≡ Some account → IsClosed settings s → is_inside s settings e.terminal ≡ false
      → cut_world s settings (checked long ascii settings e world account).1 ≡ cut_world s settings world
  checked_outside true ascii account known closed away = refl
  checked_outside false false account known closed away = refl
  checked_outside false true account known closed away = tree_outside account known closed away

  account_outside : (o : Option Account) → get settings.terminals e.terminal ≡ o → IsClosed settings s → is_inside s settings e.terminal ≡ false
      → cut_world s settings (at_account settings e world o).1 ≡ cut_world s settings world
  account_outside None known closed away = refl
  account_outside (Some account) known closed away = checked_outside (is_too_long e.text) (is_ascii e.text) account known closed away

  pub normal_outside : IsClosed settings s → is_inside s settings e.terminal ≡ false → cut_world s settings (normal settings e world).1 ≡ cut_world s settings world
  normal_outside closed away = account_outside (get settings.terminals e.terminal) refl closed away

  pub failed_outside : IsClosed settings s → is_inside s settings e.terminal ≡ false → (after : World) → FailedTransition settings e world after → cut_world s settings after ≡ cut_world s settings world
  failed_outside closed away after f =
      let b : Actor = sender settings e f.account f.known in
      let outsider : s f.account.name ≡ false = sym (ap (is_member s) f.known) ∙ away in
      let p : Plan (Outcome Completion) = plan_in e f.account (get world.sessions e.terminal) in
      let outside : OutsidePlan s b p world.shared = outside_plans s b p world.shared closed outsider in
      let globals = ap (λ g. retain_keys g (λ n. s n.account)) f.globals ∙ ap (λ w. w.globals) (outside.short f.operations) in
      let locks = ap (cut_locks s settings) f.locks ∙ released_outside s settings e.terminal away world.shared.locks in
      let sessions = ap (λ l. retain_keys l (is_inside s settings)) f.sessions ∙ gone_outside s settings world.sessions e.terminal away in
      λ i. record { shared = record { globals = globals i; locks = locks i }; sessions = sessions i }

-- ---- transitions, by whether their replies say that they failed

pub inside_transitions : InsideTransitions
inside_transitions s settings e world closed fit here = record {
  normal = normal_inside s settings e world closed fit here;
  exchanges = exchanges_inside s settings e world closed fit here;
  writes = writes_inside s settings e world closed fit here;
  failed = failed_inside s settings e world closed fit here;
  transition = λ reply after h. by_kind (is_failure reply.ending) reply after h;
}
  where
    by_kind : (b : Bool) (reply : Reply) (after : World) → TransitionBy b settings e reply world after → TransitionBy b (cut_settings s settings) e reply (cut_world s settings world) (cut_world s settings after)
    by_kind false reply after h = normal_inside s settings e world closed fit here ∙ ap (λ x. (x.0, cut_world s settings x.1)) h
    by_kind true reply after h = (h.0, failed_inside s settings e world closed fit here after h.1)

pub outside_transitions : OutsideTransitions
outside_transitions s settings e world closed away = record {
  normal = normal_outside s settings e world closed away;
  failed = failed_outside s settings e world closed away;
  transition = λ reply after h. by_kind (is_failure reply.ending) reply after h;
}
  where
    by_kind : (b : Bool) (reply : Reply) (after : World) → TransitionBy b settings e reply world after → cut_world s settings after ≡ cut_world s settings world
    by_kind false reply after h = sym (ap (λ x. cut_world s settings x.1) h) ∙ normal_outside s settings e world closed away
    by_kind true reply after h = failed_outside s settings e world closed away after h.1

-- ---- fitting locks

module _ (settings : Settings) (e : Event) (world : World) (fit : IsFit settings world.shared) where
  tree_fits : (account : Account) → get settings.terminals e.terminal ≡ Some account → IsFit settings (at_tree settings e world account).1.shared
  tree_fits account known =
      let b : Actor = sender settings e account known in
      let p : Plan (Outcome Completion) = plan_in e account (get world.sessions e.terminal) in
      ended_fits settings e.terminal world (perform (ops_of b) p world.shared).0 (perform (ops_of b) p world.shared).1 (plans_keep_fit b p world.shared fit).whole

  checked_fits : (long ascii : Bool) (account : Account) → get settings.terminals e.terminal ≡ Some account → IsFit settings (checked long ascii settings e world account).1.shared
  checked_fits true ascii account known = fit
  checked_fits false false account known = fit
  checked_fits false true account known = tree_fits account known

  account_fits : (o : Option Account) → get settings.terminals e.terminal ≡ o → IsFit settings (at_account settings e world o).1.shared
  account_fits None known = fit
  account_fits (Some account) known = checked_fits (is_too_long e.text) (is_ascii e.text) account known

  kind_fits : (b : Bool) (reply : Reply) (after : World) → TransitionBy b settings e reply world after → IsFit settings after.shared
  kind_fits false reply after h = subst (λ v. IsFit settings v.shared) (ap (λ x. x.1) h) (account_fits (get settings.terminals e.terminal) refl)
  kind_fits true reply after h = subst (AreFit settings) (sym h.1.locks) (released_fits settings world.shared.locks e.terminal fit)

pub transitions_keep_fit : TransitionsKeepFit
transitions_keep_fit settings e reply world after h fit = kind_fits settings e world fit (is_failure reply.ending) reply after h

pub transitions_are_isolated : TransitionsAreIsolated
transitions_are_isolated settings e reply world after h s closed = record {
  inside = λ fit here.
      let law : InsideTransition s settings e world = inside_transitions s settings e world closed fit here in
      record { transition = law.transition reply after h; writes = law.writes };
  outside = λ away. let law : OutsideTransition s settings e world = outside_transitions s settings e world closed away in law.transition reply after h;
  writes = transitions_write settings e reply world after h;
  fit = transitions_keep_fit settings e reply world after h;
}
