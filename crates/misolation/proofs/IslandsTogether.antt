-- SPDX-License-Identifier: Apache-2.0
-- The laws of islands: the whole comes apart, and machines run together.
use Rattle.misolation.proofs.IsolationWords.{◌≡◌, ℕ, Bool, true, false, List, [], ◌∷◌, Option, Some, None, refl, sym, ap, ◌∙◌, subst, subst₂, nat_cmp_total}
use Rattle.misolation.proofs.IsolationWords.{nat_eq, get, remove, nat_cmp-IsAntisymmetric, significant_digits, held, released, Account, Settings, Outcome, Plan}
use Rattle.misolation.proofs.IsolationWords.{cut_short, held_cmp_total, held_cmp_exact, node_cmp_total, node_cmp_exact, by_test, line_in, Completion, Accounts}
use Rattle.misolation.proofs.IsolationWords.{IsClosed, is_member, is_inside, cut_settings, cut_shared, cut_world, cut_events, part, IsFit, Actor, ops_of}
use Rattle.misolation.proofs.IsolationWords.{cut_ops, InsidePlan, OutsideTransition, eqb-true, eq-eqb, IsIsland, Session, session_or_new, World, Event, Reply}
use Rattle.misolation.proofs.IsolationWords.{plan_of, at_account, normal, FailedTransition, is_failure, TransitionBy, Transition, History, opening, world_after}
use Rattle.misolation.proofs.IsolationWords.{answered, events_of, IsAlone, Placement, on, KeepsTies, refusal, StrangersRefused, LaidTogether}
use Rattle.misolation.specs.IslandLaws.{IslandRunsAlone, MachinesAreIslands, WholeComesApart, MachinesRunTogether, MovedIslandGoesOn}
use Rattle.misolation.proofs.CutMaps.{get_kept}
use Rattle.misolation.proofs.LockCuts.{released_cut}
use Rattle.misolation.proofs.Endings.{gone_inside}
use Rattle.misolation.proofs.PlansInside.{inside_plans}
use Rattle.misolation.proofs.Transitions.{normal_inside, outside_transitions, transitions_keep_fit}
use Rattle.misolation.proofs.PartsAlone.{part_is_history, part_is_alone, opening_is_fit, opening_is_cut}

-- ---- islands are closed, and machines' accounts are islands

island_closed : (s : Accounts) (settings : Settings) → IsIsland settings s → IsClosed settings s
island_closed s settings island x y f e = island x y f ∙ e

machine_island : (settings : Settings) (place : Placement) → KeepsTies settings place → (m : ℕ) → IsIsland settings (on place m)
machine_island settings place ties m x y f = ap (λ p. nat_eq p m) (ties x y f)

islands_keep_ties : (settings : Settings) (place : Placement) → ((m : ℕ) → IsIsland settings (on place m)) → KeepsTies settings place
islands_keep_ties settings place islands x y f =
    sym (eqb-true (place y) (place x) (sym (islands (place x) x y f) ∙ eq-eqb (place x) (place x) refl))

pub machines_are_islands : MachinesAreIslands
machines_are_islands settings place = (machine_island settings place, islands_keep_ties settings place)

-- ---- one island

pub island_runs_alone : IslandRunsAlone
island_runs_alone s settings globals es after island h none =
    let law : IsAlone s settings (opening globals) after es = part_is_alone s settings (opening globals) after es (island_closed s settings island) (opening_is_fit settings globals) h none in
    let start = opening_is_cut s settings globals in
    let low = cut_settings s settings in
    let own = cut_events s settings (events_of es) in
    record {
      lines = law.lines ∙ ap (λ v. answered low v own) start;
      left = ap (λ v. v.shared.globals) law.left ∙ ap (λ v. (world_after low v own).shared.globals) start;
    }

-- ---- a transition over the cut is one of the whole

module _ (s : Accounts) (settings : Settings) (e : Event) (world : World) (closed : IsClosed settings s) (fit : IsFit settings world.shared) (here : is_inside s settings e.terminal ≡ true) where
  abbrev plan_in : Account → Option Session → Plan (Outcome Completion)
  plan_in account session = plan_of e.terminal account (session_or_new session) (line_in account.language e.text)

  failed_whole : (left : World) → FailedTransition (cut_settings s settings) e (cut_world s settings world) left → (after : World) × FailedTransition settings e world after × (cut_world s settings after ≡ left)
  failed_whole left f =
      let known : get settings.terminals e.terminal ≡ Some f.account = sym (get_kept nat_cmp_total nat_cmp-IsAntisymmetric settings.terminals (is_inside s settings) e.terminal here) ∙ f.known in
      let b : Actor = record { settings = settings; terminal = e.terminal; account = f.account; known = known } in
      let member : s f.account.name ≡ true = sym (ap (is_member s) known) ∙ here in
      let p : Plan (Outcome Completion) = plan_in f.account (get world.sessions e.terminal) in
      let inside : InsidePlan s b p world.shared = inside_plans s b p world.shared closed member fit in
      let after : World = record {
        shared = record { globals = (cut_short (ops_of b) f.operations p world.shared).globals; locks = released world.shared.locks e.terminal };
        sessions = remove world.sessions e.terminal;
      } in
      let globals = sym (f.globals
      ∙ ap (λ o. (cut_short (cut_ops s b) f.operations (plan_in f.account o) (cut_shared s settings world.shared)).globals) (get_kept nat_cmp_total nat_cmp-IsAntisymmetric world.sessions (is_inside s settings) e.terminal here)
      ∙ ap (λ w. w.globals) (inside.short f.operations)) in
      let locks = sym (f.locks ∙ released_cut s settings world.shared.locks e.terminal) in
      let sessions = sym (f.sessions ∙ gone_inside s settings world.sessions e.terminal) in (
        after,
        record { account = f.account; known = known; short = f.short; ascii = f.ascii; operations = f.operations; globals = refl; locks = refl; sessions = refl },
        λ i. record { shared = record { globals = globals i; locks = locks i }; sessions = sessions i },
      )

  step_by : (b : Bool) (reply : Reply) (left : World) → TransitionBy b (cut_settings s settings) e reply (cut_world s settings world) left → (after : World) × TransitionBy b settings e reply world after × (cut_world s settings after ≡ left)
  step_by false reply left h =
      let same = sym (normal_inside s settings e world closed fit here) ∙ h in
      ((normal settings e world).1, (λ i. ((same i).0, (normal settings e world).1)), (λ i. (same i).1))
  step_by true reply left h =
      let whole = failed_whole left h.1 in
      (whole.0, (h.0, whole.1), whole.2)

  transition_whole : (reply : Reply) (left : World) → Transition (cut_settings s settings) e reply (cut_world s settings world) left → (after : World) × Transition settings e reply world after × (cut_world s settings after ≡ left)
  transition_whole reply left h = step_by (is_failure reply.ending) reply left h

-- ---- lines of no account

refused_normal : (settings : Settings) (e : Event) (world : World) → get settings.terminals e.terminal ≡ None → normal settings e world ≡ (refusal, world)
refused_normal settings e world none = ap (at_account settings e world) none

stranger_by : (settings : Settings) (e : Event) (world after : World) (b : Bool) (reply : Reply) → TransitionBy b settings e reply world after → get settings.terminals e.terminal ≡ None → reply ≡ refusal
stranger_by settings e world after false reply h none = ap (λ r. r.0) (sym h ∙ refused_normal settings e world none)
stranger_by settings e world after true reply h none = let no : None ≡ Some h.1.account = sym none ∙ h.1.known in absurd (cc)

strangers_refused : (settings : Settings) (world after : World) (es : List (Event × Reply)) → History settings world es after → StrangersRefused settings es
strangers_refused settings world after [] h = tt
strangers_refused settings world after (e ∷ es) h = (stranger_by settings e.0 world h.0 (is_failure e.1.ending) e.1 h.1, strangers_refused settings h.0 after es h.2)

-- ---- what is left

laid_together : (place : Placement) (settings : Settings) (left : ℕ → World) (whole : World) → ((m : ℕ) → cut_world (on place m) settings whole ≡ left m) → LaidTogether place settings left whole
laid_together place settings left whole parts = record {
  parts = parts;
  globals = λ n.
      let m = place n.account in
      sym (get_kept (node_cmp_total significant_digits) (node_cmp_exact significant_digits) whole.shared.globals (λ k. on place m k.account) n (eq-eqb m m refl)) ∙ ap (λ v. get v.shared.globals n) (parts m);
  sessions = λ t a known.
      let m = place a.name in
      sym (get_kept nat_cmp_total nat_cmp-IsAntisymmetric whole.sessions (is_inside (on place m) settings) t (ap (is_member (on place m)) known ∙ eq-eqb m m refl)) ∙ ap (λ v. get v.sessions t) (parts m);
  locks = λ t a known n.
      let m = place a.name in
      sym (get_kept held_cmp_total held_cmp_exact whole.shared.locks (λ h. is_inside (on place m) settings h.terminal) (held t n) (ap (is_member (on place m)) known ∙ eq-eqb m m refl)) ∙ ap (λ v. get v.shared.locks (held t n)) (parts m);
}

pub whole_comes_apart : WholeComesApart
whole_comes_apart place settings world after es ties fit h = record {
  apart = record {
    machines = λ m. part_is_history (on place m) settings world after es (island_closed (on place m) settings (machine_island settings place ties m)) fit h;
    strangers = strangers_refused settings world after es h;
  };
  laid = laid_together place settings (λ m. cut_world (on place m) settings after) after (λ m. refl);
}

-- ---- machines run together

module _ (place : Placement) (settings : Settings) (ties : KeepsTies settings place) where
  closed_on : (m : ℕ) → IsClosed settings (on place m)
  closed_on m = island_closed (on place m) settings (machine_island settings place ties m)

  -- each machine's history from its part of a world
  abbrev Histories : World → List (Event × Reply) → (ℕ → World) → Type 0
  Histories world es left = (m : ℕ) → History (cut_settings (on place m) settings) (cut_world (on place m) settings world) (part (on place m) settings es) (left m)

  part_here : (m : ℕ) (e : Event × Reply) (es : List (Event × Reply)) → is_inside (on place m) settings e.0.terminal ≡ true → part (on place m) settings (e ∷ es) ≡ e ∷ part (on place m) settings es
  part_here m e es here = rw here refl

  part_away : (m : ℕ) (e : Event × Reply) (es : List (Event × Reply)) → is_inside (on place m) settings e.0.terminal ≡ false → part (on place m) settings (e ∷ es) ≡ part (on place m) settings es
  part_away m e es away = rw away refl

  module _ (world : World) (e : Event × Reply) (es : List (Event × Reply)) (left : ℕ → World) (fit : IsFit settings world.shared) (h : Histories world (e ∷ es) left) where
    -- a machine that the line is not of
    passed : (m : ℕ) → is_inside (on place m) settings e.0.terminal ≡ false → (between : World) → cut_world (on place m) settings between ≡ cut_world (on place m) settings world
        → History (cut_settings (on place m) settings) (cut_world (on place m) settings between) (part (on place m) settings es) (left m)
    passed m away between same =
        subst (λ v. History (cut_settings (on place m) settings) v (part (on place m) settings es) (left m)) (sym same)
        (subst (λ xs. History (cut_settings (on place m) settings) (cut_world (on place m) settings world) xs (left m)) (part_away m e es away) (h m))

    -- the first line's transition in the whole, and the machines' histories after it
    stepped : (o : Option Account) → get settings.terminals e.0.terminal ≡ o → (get settings.terminals e.0.terminal ≡ None → e.1 ≡ refusal)
        → (between : World) × Transition settings e.0 e.1 world between × Histories between es left
    stepped None known stranger = (
      world,
      subst (λ r. Transition settings e.0 r world world) (sym (stranger known)) (refused_normal settings e.0 world known),
      λ m. passed m (ap (is_member (on place m)) known) world refl,
    )
    stepped (Some account) known stranger =
        let own = place account.name in
        let inside : (m : ℕ) → is_inside (on place m) settings e.0.terminal ≡ nat_eq own m = λ m. ap (is_member (on place m)) known in
        let here : is_inside (on place own) settings e.0.terminal ≡ true = inside own ∙ eq-eqb own own refl in
        let apart : History (cut_settings (on place own) settings) (cut_world (on place own) settings world) (e ∷ part (on place own) settings es) (left own) =
        subst (λ xs. History (cut_settings (on place own) settings) (cut_world (on place own) settings world) xs (left own)) (part_here own e es here) (h own) in
        let whole = transition_whole (on place own) settings e.0 world (closed_on own) fit here e.1 apart.0 apart.1 in (
          whole.0,
          whole.1,
          λ m. by_test (nat_eq own m)
              (λ same.
              subst (λ k. History (cut_settings (on place k) settings) (cut_world (on place k) settings whole.0) (part (on place k) settings es) (left k)) (eqb-true own m same)
              (subst (λ v. History (cut_settings (on place own) settings) v (part (on place own) settings es) (left own)) (sym whole.2) apart.2))
              (λ other.
              let law : OutsideTransition (on place m) settings e.0 world = outside_transitions (on place m) settings e.0 world (closed_on m) (inside m ∙ other) in
              passed m (inside m ∙ other) whole.0 (law.transition e.1 whole.0 whole.1)),
        )

  joined : (world : World) (es : List (Event × Reply)) (left : ℕ → World) → IsFit settings world.shared → Histories world es left → StrangersRefused settings es
      → (after : World) × History settings world es after × ((m : ℕ) → cut_world (on place m) settings after ≡ left m)
  joined world [] left fit h strangers = (world, refl, λ m. sym (h m))
  joined world (e ∷ es) left fit h strangers =
      let first = stepped world e es left fit h (get settings.terminals e.0.terminal) refl strangers.0 in
      let rest = joined first.0 es left (transitions_keep_fit settings e.0 e.1 world first.0 first.1 fit) first.2 strangers.1 in
      (rest.0, (first.0, first.1, rest.1), rest.2)

pub machines_run_together : MachinesRunTogether
machines_run_together place settings world es left ties fit apart =
    let whole = joined place settings ties world es left fit apart.machines apart.strangers in
    (whole.0, whole.1, laid_together place settings left whole.0 whole.2)

-- ---- a move

pub moved_island_goes_on : MovedIslandGoesOn
moved_island_goes_on s here there world between opened after es fs island island' same fit fit' h moved k = record {
  before = part_is_history s here world between es (island_closed s here island) fit h;
  behind = subst₂ (λ low v. History low v (part s there fs) (cut_world s there after)) (sym same) moved (part_is_history s there opened after fs (island_closed s there island') fit' k);
}
