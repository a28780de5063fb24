-- SPDX-License-Identifier: Apache-2.0
-- What a normal transition cannot tell apart.
use Rattle.misolation.proofs.IsolationWords.{◌≡◌, ℕ, Bool, true, false, cond, List, [], ◌∷◌, Option, Some, None, refl, sym, ap, ◌∙◌, subst, get, insert, remove}
use Rattle.misolation.proofs.IsolationWords.{get-insert, get-remove, nat_cmp, eq_by_cmp, list_all, nat_cmp_total, Text, text_eq, Account, Settings, Read, Write}
use Rattle.misolation.proofs.IsolationWords.{LockName, taken, Op, May, Value, Status, Neighbour, Following, Routine, Put, Kill, Take, Give_back, Release, Ops}
use Rattle.misolation.proofs.IsolationWords.{perform}
use Rattle.misolation.proofs.IsolationWords.{State, Outcome, line_in, Completion, Shared, act, guarded, may_lock, took, answered, world_after, status, order_at}
use Rattle.misolation.proofs.IsolationWords.{following_at, lines_of, routines_of, without_subtree, Session, session_or_new, World, Event, Reply, Ending}
use Rattle.misolation.proofs.IsolationWords.{Finished, Halted}
use Rattle.misolation.proofs.IsolationWords.{Faulted, kept, plan_of, reply_of, state_of, settled, ended, is_too_long, is_ascii, at_tree, checked, at_account}
use Rattle.misolation.proofs.IsolationWords.{normal, AlikeSettings, AlikeWorlds, AlikeTransitions, TransitionsByAllowed, TransitionsBySessions}

-- ---- settings that allow the same

module _ (one two : Settings) (alike : AlikeSettings one two) where
  same_lock : (me : Text) (n : LockName) → may_lock one me n ≡ may_lock two me n
  same_lock me n = ap (λ b. cond n.global b (text_eq n.node.account me)) (alike.allowed me n.node.account n.node.name Write)

  same_operation : (terminal : ℕ) (me : Text) (op : Op) (w : Shared) → act one terminal me op w ≡ act two terminal me op w
  same_operation terminal me (May owner name mode) w = ap (λ b. (b, w)) (alike.allowed me owner name mode)
  same_operation terminal me (Value n) w = ap (λ b. guarded b None w (get w.globals n, w)) (alike.allowed me n.account n.name Read)
  same_operation terminal me (Status n) w = ap (λ b. guarded b (false, false) w (status w.globals n, w)) (alike.allowed me n.account n.name Read)
  same_operation terminal me (Neighbour direction n) w = ap (λ b. guarded b None w (order_at w.globals direction n, w)) (alike.allowed me n.account n.name Read)
  same_operation terminal me (Following direction n) w =
      ap (λ b. guarded b None w (following_at w.globals direction n, w)) (alike.allowed me n.account n.name Read)
  same_operation terminal me (Routine None name) w = refl
  same_operation terminal me (Routine (Some owner) name) w = ap (λ b. guarded b [] w (lines_of w.globals owner name, w)) (alike.allowed me owner (routines_of owner).name Read)
  same_operation terminal me (Put n t) w = ap (λ b. guarded b tt w (tt, record w { globals = insert w.globals n t })) (alike.allowed me n.account n.name Write)
  same_operation terminal me (Kill n) w = ap (λ b. guarded b tt w (tt, record w { globals = without_subtree w.globals n })) (alike.allowed me n.account n.name Write)
  same_operation terminal me (Take names) w = ap (λ (p : LockName → Bool). guarded (list_all p names) false w (took w (taken w.locks terminal names))) (λ i n. same_lock me n i)
  same_operation terminal me (Give_back n) w = refl
  same_operation terminal me Release w = refl

  same_operations : (terminal : ℕ) (me : Text) → act one terminal me ≡ act two terminal me
  same_operations terminal me = λ i op w. same_operation terminal me op w i

  same_tree : (e : Event) (world : World) (account : Account) → at_tree one e world account ≡ at_tree two e world account
  same_tree e world account =
      ap (λ (ops : Ops Shared). ended e.terminal world (perform ops (plan_of e.terminal account (session_or_new (get world.sessions e.terminal)) (line_in account.language e.text)) world.shared))
      (same_operations e.terminal account.name)

  same_checked : (long ascii : Bool) (e : Event) (world : World) (account : Account) → checked long ascii one e world account ≡ checked long ascii two e world account
  same_checked true ascii e world account = refl
  same_checked false false e world account = refl
  same_checked false true e world account = same_tree e world account

  same_account : (e : Event) (world : World) (o : Option Account) → at_account one e world o ≡ at_account two e world o
  same_account e world None = refl
  same_account e world (Some account) = same_checked (is_too_long e.text) (is_ascii e.text) e world account

pub transitions_by_allowed : TransitionsByAllowed
transitions_by_allowed one two e world alike = ap (at_account one e world) (alike.terminals e.terminal) ∙ same_account one two alike e world (get two.terminals e.terminal)

-- ---- worlds alike

pub alike_worlds : (one two : World) → one ≡ two → AlikeWorlds one two
alike_worlds one two e = record { shared = ap (λ (v : World). v.shared) e; sessions = λ t. ap (λ (v : World). session_or_new (get v.sessions t)) e }

-- what a line leaves of its session it leaves alike, and none if it halts
put_alike : (b : Bool) (x : Session) (o p : Option Session) → session_or_new o ≡ session_or_new p → session_or_new (cond b (Some x) o) ≡ session_or_new (cond b (Some x) p)
put_alike true x o p e = refl
put_alike false x o p e = e

gone_alike : (b : Bool) (o p : Option Session) → session_or_new o ≡ session_or_new p → session_or_new (cond b None o) ≡ session_or_new (cond b None p)
gone_alike true o p e = refl
gone_alike false o p e = e

module _ (one two : World) (alike : AlikeWorlds one two) where
  kept_alike : (t : ℕ) (x : Session) (q : ℕ) → session_or_new (get (insert one.sessions t x) q) ≡ session_or_new (get (insert two.sessions t x) q)
  kept_alike t x q =
      ap session_or_new (get-insert nat_cmp_total one.sessions t x q)
      ∙ put_alike (eq_by_cmp nat_cmp q t) x (get one.sessions q) (get two.sessions q) (alike.sessions q)
      ∙ sym (ap session_or_new (get-insert nat_cmp_total two.sessions t x q))

  halted_alike : (t q : ℕ) → session_or_new (get (remove one.sessions t) q) ≡ session_or_new (get (remove two.sessions t) q)
  halted_alike t q =
      ap session_or_new (get-remove nat_cmp_total one.sessions t q)
      ∙ gone_alike (eq_by_cmp nat_cmp q t) (get one.sessions q) (get two.sessions q) (alike.sessions q)
      ∙ sym (ap session_or_new (get-remove nat_cmp_total two.sessions t q))

  settled_alike : (t : ℕ) (ending : Ending) (state : State) (w : Shared) → AlikeWorlds (settled t one ending state w) (settled t two ending state w)
  settled_alike t Finished state w = record { shared = refl; sessions = kept_alike t (kept state) }
  settled_alike t (Faulted fault) state w = record { shared = refl; sessions = kept_alike t (kept state) }
  settled_alike t Halted state w = record { shared = refl; sessions = halted_alike t }

  ended_alike : (t : ℕ) (r : Outcome Completion × Shared) → AlikeTransitions (ended t one r) (ended t two r)
  ended_alike t r = record { reply = refl; world = settled_alike t (reply_of r.0).ending (state_of r.0) r.1 }

  module _ (settings : Settings) (e : Event) where
    abbrev run_of : Account → Session → Shared → Outcome Completion × Shared
    run_of account session w = perform (act settings e.terminal account.name) (plan_of e.terminal account session (line_in account.language e.text)) w

    tree_alike : (account : Account) → AlikeTransitions (at_tree settings e one account) (at_tree settings e two account)
    tree_alike account =
        subst (λ (r : Outcome Completion × Shared). AlikeTransitions (at_tree settings e one account) (ended e.terminal two r))
        (λ i. run_of account (alike.sessions e.terminal i) (alike.shared i))
        (ended_alike e.terminal (run_of account (session_or_new (get one.sessions e.terminal)) one.shared))

    checked_alike : (long ascii : Bool) (account : Account) → AlikeTransitions (checked long ascii settings e one account) (checked long ascii settings e two account)
    checked_alike true ascii account = record { reply = refl; world = alike }
    checked_alike false false account = record { reply = refl; world = alike }
    checked_alike false true account = tree_alike account

    account_alike : (o : Option Account) → AlikeTransitions (at_account settings e one o) (at_account settings e two o)
    account_alike None = record { reply = refl; world = alike }
    account_alike (Some account) = checked_alike (is_too_long e.text) (is_ascii e.text) account

pub transitions_by_sessions : TransitionsBySessions
transitions_by_sessions settings e one two alike = account_alike one two alike settings e (get settings.terminals e.terminal)

-- ---- normal transitions, one after another

module _ (one two : Settings) (alike : AlikeSettings one two) where
  both_alike : (e : Event) (first second : World) → AlikeWorlds first second → AlikeTransitions (normal one e first) (normal two e second)
  both_alike e first second h =
      subst (λ (r : Reply × World). AlikeTransitions (normal one e first) r) (transitions_by_allowed one two e second alike) (transitions_by_sessions one e first second h)

  pub answered_alike : (events : List Event) (first second : World) → AlikeWorlds first second → answered one first events ≡ answered two second events
  answered_alike [] first second h = refl
  answered_alike (e ∷ events) first second h =
      let transition : AlikeTransitions (normal one e first) (normal two e second) = both_alike e first second h in
      let rest = answered_alike events (normal one e first).1 (normal two e second).1 transition.world in
      λ i. (e, transition.reply i) ∷ rest i

  pub left_alike : (events : List Event) (first second : World) → AlikeWorlds first second → AlikeWorlds (world_after one first events) (world_after two second events)
  left_alike [] first second h = h
  left_alike (e ∷ events) first second h =
      let transition : AlikeTransitions (normal one e first) (normal two e second) = both_alike e first second h in
      left_alike events (normal one e first).1 (normal two e second).1 transition.world

  pub left_equal : (events : List Event) (world : World) → world_after one world events ≡ world_after two world events
  left_equal [] world = refl
  left_equal (e ∷ events) world =
      left_equal events (normal one e world).1
      ∙ ap (λ (r : Reply × World). world_after two r.1 events) (transitions_by_allowed one two e world alike)
