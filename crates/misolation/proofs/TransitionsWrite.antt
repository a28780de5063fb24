-- SPDX-License-Identifier: Apache-2.0
-- What plans and transitions leave of globals, by their writes.
use Rattle.misolation.proofs.IsolationWords.{◌≡◌, ℕ, zero, suc, Bool, true, false, List, [], ◌∷◌, ◌++◌, Option, Some, None, refl, sym, ap, ◌∙◌, append_assoc}
use Rattle.misolation.proofs.IsolationWords.{not, ◌||◌, if◌then◌else◌, get, insert, list_all, Text, Node, Account, Settings, State, Outcome, Locks, taken}
use Rattle.misolation.proofs.IsolationWords.{line_in, Completion, session_or_new, World, Event, Reply, Ending, Halted, reply_of, state_of, settled, plan_of}
use Rattle.misolation.proofs.IsolationWords.{is_too_long, is_ascii, checked, at_account, FailedTransition, is_failure, TransitionBy, append-nil, Globals}
use Rattle.misolation.proofs.IsolationWords.{without_subtree, Op, Value, Status, Neighbour, Following, Routine, Put, Kill, Take, Plan, Done, Ask, Ops, perform}
use Rattle.misolation.proofs.IsolationWords.{cut_short}
use Rattle.misolation.proofs.IsolationWords.{Shared, act, guarded, may_call, may_read, may_write, may_lock, took, Exchange, exchanges, GlobalWrite, Puts, Kills}
use Rattle.misolation.proofs.IsolationWords.{written_by, written, write_of, writes, line_writes, writes_by, TransitionWrites, TransitionsWrite}

-- writes one after another
written-append : (xs ys : List GlobalWrite) (globals : Globals) → written (xs ++ ys) globals ≡ written ys (written xs globals)
written-append [] ys globals = refl
written-append (x ∷ xs) ys globals = written-append xs ys (written_by x globals)

-- ---- operations

kept_by : {A : Type 0} (b : Bool) (a : A) (w : Shared) (r : A × Shared) → r.1.globals ≡ w.globals → (guarded b a w r).1.globals ≡ w.globals
kept_by true a w r e = e
kept_by false a w r e = refl

kept_taken : (w : Shared) (o : Option Locks) → (took w o).1.globals ≡ w.globals
kept_taken w None = refl
kept_taken w (Some locks) = refl

put_by : (b : Bool) (n : Node) (t : Text) (w : Shared)
    → (guarded {A = Unit {0}} b tt w (tt, record w { globals = insert w.globals n t })).1.globals ≡ written (if b then Puts n t ∷ [] else []) w.globals
put_by true n t w = refl
put_by false n t w = refl

killed_by : (b : Bool) (n : Node) (w : Shared)
    → (guarded {A = Unit {0}} b tt w (tt, record w { globals = without_subtree w.globals n })).1.globals ≡ written (if b then Kills n ∷ [] else []) w.globals
killed_by true n w = refl
killed_by false n w = refl

module _ (settings : Settings) (terminal : ℕ) (me : Text) where
  abbrev ops : Ops Shared
  ops = act settings terminal me

  operation_writes : (op : Op) (w : Shared) → (ops op w).1.globals ≡ written (write_of settings me op) w.globals
  operation_writes (Value n) w = kept_by (may_read settings me n) _ w _ refl
  operation_writes (Status n) w = kept_by (may_read settings me n) _ w _ refl
  operation_writes (Neighbour direction n) w = kept_by (may_read settings me n) _ w _ refl
  operation_writes (Following direction n) w = kept_by (may_read settings me n) _ w _ refl
  operation_writes (Routine None name) w = refl
  operation_writes (Routine (Some owner) name) w = kept_by (may_call settings me owner) _ w _ refl
  operation_writes (Put n t) w = put_by (may_write settings me n) n t w
  operation_writes (Kill n) w = killed_by (may_write settings me n) n w
  operation_writes (Take names) w = kept_by (list_all (may_lock settings me) names) _ w _ (kept_taken w (taken w.locks terminal names))
  operation_writes op w = refl

  -- ---- plans

  plan_writes : {A : Type 0} (p : Plan A) (w : Shared) → (perform ops p w).1.globals ≡ written (writes settings me (exchanges ops p w)) w.globals
  plan_writes (Done a) w = refl
  plan_writes (Ask op k) w =
      let rest = writes settings me (exchanges ops (k (ops op w).0) (ops op w).1) in
      plan_writes (k (ops op w).0) (ops op w).1 ∙ ap (written rest) (operation_writes op w) ∙ sym (written-append (write_of settings me op) rest w.globals)

  -- a plan cut short has done a first part of its writes
  abbrev ShortWrites : List GlobalWrite → Shared → Shared → Type 0
  ShortWrites all w after = (done : List GlobalWrite) × (undone : List GlobalWrite) × (all ≡ done ++ undone) × (after.globals ≡ written done w.globals)

  short_writes : {A : Type 0} (n : ℕ) (p : Plan A) (w : Shared) → ShortWrites (writes settings me (exchanges ops p w)) w (cut_short ops n p w)
  short_writes zero p w = ([], writes settings me (exchanges ops p w), refl, refl)
  short_writes (suc n) (Done a) w = ([], [], refl, refl)
  short_writes (suc n) (Ask op k) w =
      let rest = short_writes n (k (ops op w).0) (ops op w).1 in (
        write_of settings me op ++ rest.0,
        rest.1,
        ap (λ xs. write_of settings me op ++ xs) rest.2 ∙ sym (append_assoc (write_of settings me op) rest.0 rest.1),
        rest.3 ∙ ap (written rest.0) (operation_writes op w) ∙ sym (written-append (write_of settings me op) rest.0 w.globals),
      )

-- ---- transitions

settled_globals : (terminal : ℕ) (world : World) (ending : Ending) (s : State) (w : Shared) → (settled terminal world ending s w).shared.globals ≡ w.globals
settled_globals terminal world Halted s w = refl
settled_globals terminal world ending s w = refl

module _ (settings : Settings) (e : Event) (world : World) where
  -- the plan of a line, and what it comes to
  abbrev line_plan : Account → Plan (Outcome Completion)
  line_plan account = plan_of e.terminal account (session_or_new (get world.sessions e.terminal)) (line_in account.language e.text)

  abbrev plan_exchanges : Account → List Exchange
  plan_exchanges account = exchanges (act settings e.terminal account.name) (line_plan account) world.shared

  checked_writes : (long ascii : Bool) (account : Account)
      → (checked long ascii settings e world account).1.shared.globals ≡ written (writes settings account.name (if long || not ascii then [] else plan_exchanges account)) world.shared.globals
  checked_writes true ascii account = refl
  checked_writes false false account = refl
  checked_writes false true account =
      let r = perform (act settings e.terminal account.name) (line_plan account) world.shared in
      settled_globals e.terminal world (reply_of r.0).ending (state_of r.0) r.1 ∙ plan_writes settings e.terminal account.name (line_plan account) world.shared

  account_writes : (o : Option Account) → (at_account settings e world o).1.shared.globals ≡ written (writes_by settings e world o) world.shared.globals
  account_writes None = refl
  account_writes (Some account) = checked_writes (is_too_long e.text) (is_ascii e.text) account

  -- of a line that was let through they are the plan's
  let_through : (account : Account) → get settings.terminals e.terminal ≡ Some account → is_too_long e.text ≡ false → is_ascii e.text ≡ true
      → line_writes settings e world ≡ writes settings account.name (plan_exchanges account)
  let_through account known short ascii =
      ap (writes_by settings e world) known
      ∙ (λ i. writes settings account.name (if short i || not (ascii i) then [] else plan_exchanges account))

  by_kind : (b : Bool) (reply : Reply) (after : World) → is_failure reply.ending ≡ b → TransitionBy b settings e reply world after → TransitionWrites settings e reply world after
  by_kind false reply after is h = record {
    done = line_writes settings e world;
    undone = [];
    all = sym (append-nil (line_writes settings e world));
    globals = sym (ap (λ (r : Reply × World). r.1.shared.globals) h) ∙ account_writes (get settings.terminals e.terminal);
    whole = λ fine. refl;
  }
  by_kind true reply after is h =
      let f : FailedTransition settings e world after = h.1 in
      let short = short_writes settings e.terminal f.account.name f.operations (line_plan f.account) world.shared in
      record {
        done = short.0;
        undone = short.1;
        all = let_through f.account f.known f.short f.ascii ∙ short.2;
        globals = f.globals ∙ short.3;
        whole = λ fine. let no : true ≡ false = sym is ∙ fine in absurd (cc);
      }

pub transitions_write : TransitionsWrite
transitions_write settings e reply world after h = by_kind settings e world (is_failure reply.ending) reply after refl h
