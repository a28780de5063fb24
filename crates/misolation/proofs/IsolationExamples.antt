-- SPDX-License-Identifier: Apache-2.0
-- The laws on a host of three customers, as proved equations: they are not empty, and they claim no more than is so.
--
-- The laboratory lets the clinic read its results. The bank has no tie to either, or else the clinic lets it write its bills.
use Rattle.misolation.proofs.IsolationWords.{◌≡◌, ℕ, Bool, true, false, cond, List, [], ◌∷◌, Option, Some, None, refl, sym, ap, ◌∙◌, subst, subst₂, nat_cmp}
use Rattle.misolation.proofs.IsolationWords.{eq_by_cmp, nat_cmp_total, Text, Node, significant_digits, LockName, held, held_cmp, released, Read, Write, Account}
use Rattle.misolation.proofs.IsolationWords.{Grant, Settings, cut_drops, held_cmp_total, held_cmp_exact, node_cmp_total, node_cmp_exact, Put, Take, Value}
use Rattle.misolation.proofs.IsolationWords.{Shared, act, History, NoneFailed, Accounts, IsClosed, reachers, IsLeastClosed, is_member, is_inside, cut_settings}
use Rattle.misolation.proofs.IsolationWords.{cut_shared, cut_world, cut_events, part, holds_by, IsFit, only, codes, FinMap, get, insert, remove, retain_keys}
use Rattle.misolation.proofs.IsolationWords.{empty, entries, from_sorted, same_map, get-empty, get-insert, get-from_sorted, entries-from_sorted, entries-insert}
use Rattle.misolation.proofs.IsolationWords.{gets, nat_cmp-IsAntisymmetric, put, Session, new_session, session_or_new, World, Event, Reply, Faulted}
use Rattle.misolation.proofs.IsolationWords.{is_too_long, is_ascii, normal, FailedTransition, lost, TransitionBy, Transition, normal_never_fails, Actor, ops_of}
use Rattle.misolation.proofs.IsolationWords.{cut_ops, InsideOperation, AlikeWorlds, SameEntries, Run, Agree, Answered, SameReplies, rules}
use Rattle.mspec.specs.Code.{Lost, Memory, Store}
use Rattle.misolation.proofs.CutMaps.{get_kept}
use Rattle.misolation.proofs.FittingLocks.{fit_insert}
use Rattle.misolation.proofs.Operations.{inside_operations}
use Rattle.misolation.proofs.Reaching.{reach_is_least_closed}
use Rattle.misolation.proofs.TransitionsAlike.{alike_worlds}
use Rattle.misolation.proofs.EntriesAlike.{same_entries_agree}
use Rattle.misolation.proofs.PartsAlone.{part_is_history, opening_is_fit, agreeing_replies}

abbrev pub account : Text → Account
account name = record { name = name; steps = 2000; language = 0 }

abbrev pub clinic : Text
clinic = codes "CLINIC"

abbrev pub laboratory : Text
laboratory = codes "LABORATORY"

abbrev pub bank : Text
bank = codes "BANK"

abbrev pub terminals : FinMap nat_cmp Account
terminals = insert (insert (insert empty 1 (account clinic)) 2 (account laboratory)) 3 (account bank)

abbrev pub host : List Grant → Settings
host grants = record { accounts = account clinic ∷ account laboratory ∷ account bank ∷ []; terminals = terminals; grants = grants }

abbrev pub results_read : Grant
results_read = record { from = laboratory; to = clinic; global = codes "RESULTS"; mode = Read }

abbrev pub bills_written : Grant
bills_written = record { from = clinic; to = bank; global = codes "BILLS"; mode = Write }

-- the bank apart, and the bank let in
abbrev pub apart : Settings
apart = host (results_read ∷ [])

abbrev pub let_in : Settings
let_in = host (results_read ∷ bills_written ∷ [])

-- ---- who reaches whom

record WhoReaches : Type 0 where
  laboratory_reaches_clinic : reachers apart clinic laboratory ≡ true
  clinic_reaches_not_laboratory : reachers apart laboratory clinic ≡ false
  bank_reaches_not_clinic : reachers apart clinic bank ≡ false
  -- what the bank writes at the clinic shows there, and what the clinic lets it use shows at the bank: a grant to write ties both ways
  let_in_bank_reaches_clinic : reachers let_in clinic bank ≡ true
  -- so do the laboratory's results, by a chain of two
  let_in_laboratory_reaches_bank : reachers let_in bank laboratory ≡ true

reaching : WhoReaches
reaching = search rules

-- ---- two worlds that differ in the bank's globals, locks and sessions alone

abbrev node : Text → Text → Node
node owner name = record { account = owner; name = name; subscripts = [] }

abbrev lock : Node → LockName
lock n = record { global = true; node = n }

abbrev results : Node
results = node laboratory (codes "RESULTS")

abbrev bills : Node
bills = node clinic (codes "BILLS")

abbrev ledger : Node
ledger = node bank (codes "LEDGER")

abbrev quiet : World
quiet = record { shared = record { globals = insert empty results (codes "7"); locks = empty }; sessions = empty }

abbrev busy : World
busy = record {
  shared = record { globals = insert quiet.shared.globals ledger (codes "9"); locks = insert quiet.shared.locks (held 3 (lock ledger)) 1 };
  sessions = insert quiet.sessions 3 new_session;
}

-- those that reach the clinic: it and the laboratory
abbrev tied : Accounts
tied = reachers apart clinic

of_clinic : get terminals 1 ≡ Some (account clinic)
of_clinic = simp gets refl

of_bank : get terminals 3 ≡ Some (account bank)
of_bank = simp gets refl

clinic_inside : is_inside tied apart 1 ≡ true
clinic_inside = ap (is_member tied) of_clinic

bank_outside : is_inside tied apart 3 ≡ false
bank_outside = ap (is_member tied) of_bank

own_inside : is_inside (only clinic) apart 1 ≡ true
own_inside = ap (is_member (only clinic)) of_clinic

own_outside : is_inside (only clinic) apart 3 ≡ false
own_outside = ap (is_member (only clinic)) of_bank

-- the cuts are one
same_cut : cut_world tied apart busy ≡ cut_world tied apart quiet
same_cut = λ i. record {
  shared = record {
    globals = cut_drops (node_cmp_total significant_digits) (node_cmp_exact significant_digits) quiet.shared.globals (λ n. tied n.account) ledger (codes "9") refl i;
    locks = cut_drops held_cmp_total held_cmp_exact quiet.shared.locks (λ h. is_inside tied apart h.terminal) (held 3 (lock ledger)) 1 bank_outside i;
  };
  sessions = cut_drops nat_cmp_total nat_cmp-IsAntisymmetric quiet.sessions (is_inside tied apart) 3 new_session bank_outside i;
}

-- and the bank holds what it may hold
busy_fits : IsFit apart busy.shared
busy_fits = fit_insert apart empty (held 3 (lock ledger)) 1 (ap (λ o. holds_by apart o (lock ledger)) of_bank) (opening_is_fit apart empty)

-- ---- the bank's lines fail, and the clinic's is answered as if there were no bank

abbrev line : ℕ → Text → Event
line t text = record { terminal = t; text = text }

-- what a failed line leaves that failed before it did anything
abbrev failed_at : ℕ → World → World
failed_at t world = record {
  shared = record { globals = world.shared.globals; locks = released world.shared.locks t };
  sessions = remove world.sessions t;
}

fails_at : (t : ℕ) (a : Account) → get terminals t ≡ Some a → (world : World) (text : Text) → is_too_long text ≡ false → is_ascii text ≡ true → FailedTransition apart (line t text) world (failed_at t world)
fails_at t a known world text short ascii =
    record { account = a; known = known; short = short; ascii = ascii; operations = 0; globals = refl; locks = refl; sessions = refl }

abbrev failed : World → World
failed = failed_at 3

clinic_runs : (world : World) (e : Event) → Transition apart e (normal apart e world).0 world (normal apart e world).1
clinic_runs world e = subst (λ b. TransitionBy b apart e (normal apart e world).0 world (normal apart e world).1) (sym (normal_never_fails apart e world)) refl

module _ (text : Text) where
  abbrev first : Event
  first = line 3 (codes "S A=1")

  abbrev last : Event
  last = line 3 (codes "W A")

  -- memory does not suffice for the bank's first line, nor the store for its last
  abbrev crowded : List (Event × Reply)
  crowded =
      (first, lost (Faulted (Lost Memory))) ∷
      (line 1 text, (normal apart (line 1 text) (failed busy)).0) ∷
      (last, lost (Faulted (Lost Store))) ∷ []

  abbrev lonely : List (Event × Reply)
  lonely = (line 1 text, (normal apart (line 1 text) quiet).0) ∷ []

  abbrev with_bank : Run
  with_bank = record { settings = apart; world = busy; events = first ∷ line 1 text ∷ last ∷ [] }

  abbrev without_bank : Run
  without_bank = record { settings = apart; world = quiet; events = line 1 text ∷ [] }

  crowded_runs : History apart busy crowded (failed (normal apart (line 1 text) (failed busy)).1)
  crowded_runs = (
    failed busy,
    (refl, fails_at 3 (account bank) of_bank busy (codes "S A=1") refl refl),
    (
      (normal apart (line 1 text) (failed busy)).1,
      clinic_runs (failed busy) (line 1 text),
      (
        failed (normal apart (line 1 text) (failed busy)).1,
        (refl, fails_at 3 (account bank) of_bank (normal apart (line 1 text) (failed busy)).1 (codes "W A") refl refl),
        refl,
      ),
    ),
  )

  lonely_runs : History apart quiet lonely (normal apart (line 1 text) quiet).1
  lonely_runs = ((normal apart (line 1 text) quiet).1, clinic_runs quiet (line 1 text), refl)

  agreed : Agree clinic with_bank without_bank
  agreed = record {
    reaching = λ x. refl;
    settings = record { terminals = λ t. refl; allowed = λ me owner name mode. refl };
    world = alike_worlds (cut_world tied apart busy) (cut_world tied apart quiet) same_cut;
    events = simp (clinic_inside, bank_outside) refl;
  }

  tied_part : part tied apart crowded ≡ (line 1 text, (normal apart (line 1 text) (failed busy)).0) ∷ []
  tied_part = simp (clinic_inside, bank_outside) refl

  lonely_part : part tied apart lonely ≡ lonely
  lonely_part = simp clinic_inside refl

  crowded_answered : Answered clinic with_bank crowded (failed (normal apart (line 1 text) (failed busy)).1)
  crowded_answered = record {
    events = refl;
    history = crowded_runs;
    none_failed = subst NoneFailed (sym tied_part) (normal_never_fails apart (line 1 text) (failed busy), tt);
  }

  lonely_answered : Answered clinic without_bank lonely (normal apart (line 1 text) quiet).1
  lonely_answered = record {
    events = refl;
    history = lonely_runs;
    none_failed = subst NoneFailed (sym lonely_part) (normal_never_fails apart (line 1 text) quiet, tt);
  }

  same_replies : SameReplies clinic with_bank without_bank crowded lonely (failed (normal apart (line 1 text) (failed busy)).1) (normal apart (line 1 text) quiet).1
  same_replies =
      agreeing_replies clinic with_bank without_bank agreed busy_fits (opening_is_fit apart quiet.shared.globals) crowded lonely
      (failed (normal apart (line 1 text) (failed busy)).1) (normal apart (line 1 text) quiet).1 crowded_answered lonely_answered

  -- whatever the clinic sends, it is answered alike
  clinic_sees_no_bank : (line 1 text, (normal apart (line 1 text) (failed busy)).0) ∷ [] ≡ lonely
  clinic_sees_no_bank = sym (simp (own_inside, own_outside) refl) ∙ same_replies.own ∙ simp own_inside refl

-- ---- a line of the laboratory fails, and after it the bank is not seen either

of_laboratory : get terminals 2 ≡ Some (account laboratory)
of_laboratory = simp gets refl

laboratory_inside : is_inside tied apart 2 ≡ true
laboratory_inside = ap (is_member tied) of_laboratory

module _ (text : Text) where
  abbrev short_of_memory : List (Event × Reply)
  short_of_memory =
      (line 2 (codes "S A=1"), lost (Faulted (Lost Memory))) ∷
      (line 1 text, (normal apart (line 1 text) (failed_at 2 busy)).0) ∷ []

  laboratory_fails : History apart busy short_of_memory (normal apart (line 1 text) (failed_at 2 busy)).1
  laboratory_fails = (
    failed_at 2 busy,
    (refl, fails_at 2 (account laboratory) of_laboratory busy (codes "S A=1") refl refl),
    ((normal apart (line 1 text) (failed_at 2 busy)).1, clinic_runs (failed_at 2 busy) (line 1 text), refl),
  )

  whole_part : part tied apart short_of_memory ≡ short_of_memory
  whole_part = simp (clinic_inside, laboratory_inside) refl

  -- the same lines with the same replies are a history where there is no bank
  past_failure : History (cut_settings tied apart) (cut_world tied apart quiet) short_of_memory (cut_world tied apart (normal apart (line 1 text) (failed_at 2 busy)).1)
  past_failure =
      let least : IsLeastClosed apart clinic tied = reach_is_least_closed apart clinic in
      let after = (normal apart (line 1 text) (failed_at 2 busy)).1 in
      subst₂ (λ world es. History (cut_settings tied apart) world es (cut_world tied apart after)) same_cut whole_part
      (part_is_history tied apart busy after short_of_memory least.closed busy_fits laboratory_fails)

-- ---- how settings are listed, and whether a session is new or none, does not matter

abbrev bills_read : Grant
bills_read = record bills_written { mode = Read }

-- the bank let in: the accounts in another order, a grant twice, and one to read beside one to write
abbrev relisted : Settings
relisted = record {
  accounts = account bank ∷ account clinic ∷ account laboratory ∷ [];
  terminals = terminals;
  grants = bills_read ∷ bills_written ∷ results_read ∷ results_read ∷ [];
}

same_entries : SameEntries let_in relisted
same_entries = record { terminals = λ t. refl; there = refl; back = refl }

-- the clinic has a new session
abbrev opened : World
opened = record quiet { sessions = insert quiet.sessions 1 new_session }

quiet_opened : AlikeWorlds quiet opened
quiet_opened = record { shared = refl; sessions = λ t. by_terminal (eq_by_cmp nat_cmp t 1) (get quiet.sessions t) (get-empty nat_cmp t) ∙ sym (ap session_or_new (get-insert nat_cmp_total quiet.sessions 1 new_session t)) }
  where
    by_terminal : (b : Bool) (o : Option Session) → o ≡ None → session_or_new o ≡ session_or_new (cond b (Some new_session) o)
    by_terminal true o e = ap session_or_new e
    by_terminal false o e = refl

relisted_agree : (a : Text) (events : List Event)
    → Agree a (record { settings = let_in; world = quiet; events = events }) (record { settings = relisted; world = opened; events = events })
relisted_agree a events = same_entries_agree a let_in relisted quiet opened events same_entries quiet_opened

-- but a grant to write for one to read is another entry
not_same_entries : SameEntries apart (host (record results_read { mode = Write } ∷ [])) → ⊥
not_same_entries same = let no : false ≡ true = same.back in absurd (cc)

-- ---- what is left to the clinic

abbrev clinics : Actor
clinics = record { settings = apart; terminal = 1; account = account clinic; known = of_clinic }

results_shown : (ops_of clinics (Value results) busy.shared).0 ≡ Some (codes "7")
results_shown = simp (gets, node_cmp_total significant_digits) refl

-- alone it is shown the laboratory's results as well
results_shown_alone : (cut_ops tied clinics (Value results) (cut_shared tied apart busy.shared)).0 ≡ Some (codes "7")
results_shown_alone =
    let least : IsLeastClosed apart clinic tied = reach_is_least_closed apart clinic in
    let law : InsideOperation tied clinics (Value results) busy.shared = inside_operations tied clinics (Value results) busy.shared least.closed refl busy_fits in
    law.answer ∙ results_shown

-- ---- the bank let in

-- nothing that the bank tries at the clinic is done if it has no grant
write_refused : (x : Text) (w : Shared) → act apart 3 bank (Put bills x) w ≡ (tt, w)
write_refused x w = refl

lock_refused : (w : Shared) → act apart 3 bank (Take (lock bills ∷ [])) w ≡ (false, w)
lock_refused w = refl

-- if it has one, what it writes shows at the clinic
write_shows : (x : Text) → (act let_in 1 clinic (Value bills) (act let_in 3 bank (Put bills x) quiet.shared).1).0 ≡ Some x
write_shows x = simp (gets, node_cmp_total significant_digits) refl

nothing_billed : (act let_in 1 clinic (Value bills) quiet.shared).0 ≡ None
nothing_billed = simp (gets, node_cmp_total significant_digits) refl

-- and so does what it locks
none_held : entries quiet.shared.locks ≡ []
none_held =
    ap entries (same_map held_cmp_total held_cmp_exact quiet.shared.locks (from_sorted []) (λ q. get-empty held_cmp q ∙ sym (get-from_sorted held_cmp [] q tt)))
    ∙ entries-from_sorted held_cmp [] tt

abbrev billed : Shared
billed = record quiet.shared { locks = insert quiet.shared.locks (held 3 (lock bills)) 1 }

one_held : entries billed.locks ≡ (held 3 (lock bills), 1) ∷ []
one_held = entries-insert held_cmp_total quiet.shared.locks (held 3 (lock bills)) 1 ∙ ap (put held_cmp (held 3 (lock bills)) 1) none_held

lock_taken : act let_in 3 bank (Take (lock bills ∷ [])) quiet.shared ≡ (true, billed)
lock_taken = simp (none_held, gets) refl

lock_free : (act let_in 1 clinic (Take (lock bills ∷ [])) quiet.shared).0 ≡ true
lock_free = simp (none_held, gets) refl

lock_shows : (act let_in 1 clinic (Take (lock bills ∷ [])) billed).0 ≡ false
lock_shows = simp one_held refl

-- so those that reached the clinic before are no longer a closed set
no_longer_closed : IsClosed let_in tied → ⊥
no_longer_closed closed = let no : tied bank ≡ true = closed bank clinic refl refl in absurd (cc)

-- and the bank does not leave their cut as it was: the outside law would be false of a set that is not closed
write_is_seen : (x : Text) → cut_shared tied let_in (act let_in 3 bank (Put bills x) quiet.shared).1 ≡ cut_shared tied let_in quiet.shared → ⊥
write_is_seen x e =
    let cut : Some x ≡ get (retain_keys quiet.shared.globals (λ n. tied n.account)) bills =
    sym (get_kept (node_cmp_total significant_digits) (node_cmp_exact significant_digits) (insert quiet.shared.globals bills x) (λ n. tied n.account) bills refl ∙ simp (gets, node_cmp_total significant_digits) refl)
    ∙ ap (λ w. get w.globals bills) e in
    let none : get (retain_keys quiet.shared.globals (λ n. tied n.account)) bills ≡ None =
    get_kept (node_cmp_total significant_digits) (node_cmp_exact significant_digits) quiet.shared.globals (λ n. tied n.account) bills refl ∙ simp (gets, node_cmp_total significant_digits) refl in
    let no : Some x ≡ None = cut ∙ none in
    absurd (cc)

-- the bank's lines are among those that the clinic's replies depend on
all_tied : (text other : Text) → cut_events (reachers let_in clinic) let_in (line 3 other ∷ line 1 text ∷ []) ≡ line 3 other ∷ line 1 text ∷ []
all_tied text other = simp (inside_let_in 1 clinic of_clinic refl, inside_let_in 3 bank of_bank refl) refl
  where
    inside_let_in : (t : ℕ) (name : Text) → get terminals t ≡ Some (account name) → reachers let_in clinic name ≡ true → is_inside (reachers let_in clinic) let_in t ≡ true
    inside_let_in t name known reaches = ap (is_member (reachers let_in clinic)) known ∙ reaches
