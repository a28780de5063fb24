-- SPDX-License-Identifier: Apache-2.0
-- The two laws for histories of different length, and the isolation theorem.
use Rattle.misolation.proofs.IsolationWords.{◌≡◌, Bool, true, false, cond, List, [], ◌∷◌, Option, Some, None, map, refl, sym, ap, ◌∙◌, subst, subst₂}
use Rattle.misolation.proofs.IsolationWords.{nat_cmp_total, Text, Settings, held_cmp, held_cmp_total, held_cmp_exact, get_cut, by_test, World, Event, Reply}
use Rattle.misolation.proofs.IsolationWords.{normal, Accounts, reachers, is_member, is_inside, cut_settings, cut_world, cut_events, part, IsFit, AlikeWorlds}
use Rattle.misolation.proofs.IsolationWords.{IsLeastClosed, filter_agree, IsTotalOrder, Ordering, empty, retain_keys, get-empty, same_map, IsAntisymmetric}
use Rattle.misolation.proofs.IsolationWords.{nat_cmp-IsAntisymmetric, History, opening, replies, world_after, answered, NoneFailed, normal_never_fails}
use Rattle.misolation.proofs.IsolationWords.{normal_transitions_are_history, history_is_normal, alone, only, Run, Agree, InsideTransition, OutsideTransition}
use Rattle.misolation.proofs.IsolationWords.{events_of, PartIsHistory, HistoryHasTrace, PartOfTrace, PartIsTrace, OpeningIsFit, HistoriesKeepFit, IsAlone}
use Rattle.misolation.proofs.IsolationWords.{PartIsAlone, InterpreterIsolates, Isolation, OpeningIsCut, Answered, SameReplies, AgreeingReplies, sent_to}
use Rattle.misolation.proofs.IsolationWords.{PromiseIsKept}
use Rattle.misolation.specs.Trace.{Moment, Trace, lines_of, left_by, cut_trace}
use Rattle.misolation.proofs.CutMaps.{map_filter}
use Rattle.misolation.proofs.Reaching.{reach_is_least_closed}
use Rattle.misolation.proofs.PartsOfParts.{part_of_part, part_kept, only_among}
use Rattle.misolation.proofs.Transitions.{inside_transitions, outside_transitions, transitions_keep_fit}
use Rattle.misolation.proofs.TransitionsAlike.{answered_alike, left_alike, left_equal}

-- ---- the part is a history

pub part_is_history : PartIsHistory
part_is_history s settings world after [] closed fit h = ap (cut_world s settings) h
part_is_history s settings world after (e ∷ es) closed fit h =
    let rest = part_is_history s settings h.0 after es closed (transitions_keep_fit settings e.0 e.1 world h.0 h.1 fit) h.2 in
    by_test (is_inside s settings e.0.terminal)
    (λ here.
    let law : InsideTransition s settings e.0 world = inside_transitions s settings e.0 world closed fit here in
    rw here (cut_world s settings h.0, law.transition e.1 h.0 h.1, rest))
    (λ away.
    let law : OutsideTransition s settings e.0 world = outside_transitions s settings e.0 world closed away in
    rw away (subst (λ v. History (cut_settings s settings) v (part s settings es) (cut_world s settings after)) (law.transition e.1 h.0 h.1) rest))

-- ---- traces

traced : (settings : Settings) (world after : World) (es : List (Event × Reply)) → History settings world es after → (ms : List Moment) × Trace settings world ms × (lines_of ms ≡ es) × (left_by world ms ≡ after)
traced settings world after [] h = ([], tt, refl, sym h)
traced settings world after (e ∷ es) h =
    let rest = traced settings h.0 after es h.2 in
    (record { event = e.0; reply = e.1; after = h.0 } ∷ rest.0, (h.1, rest.1), (λ i. e ∷ rest.2 i), rest.3)

of_trace : (settings : Settings) (world : World) (ms : List Moment) → Trace settings world ms → History settings world (lines_of ms) (left_by world ms)
of_trace settings world [] h = refl
of_trace settings world (m ∷ ms) h = (m.after, h.0, of_trace settings m.after ms h.1)

pub history_has_trace : HistoryHasTrace
history_has_trace settings world after es = (
  traced settings world after es,
  λ t. subst₂ (History settings world) t.2 t.3 (of_trace settings world t.0 t.1),
)

pub part_is_trace : PartIsTrace
part_is_trace s settings world [] closed fit h = record { steps = tt; lines = refl; left = refl }
part_is_trace s settings world (m ∷ ms) closed fit h =
    let rest : PartOfTrace s settings m.after ms = part_is_trace s settings m.after ms closed (transitions_keep_fit settings m.event m.reply world m.after h.0 fit) h.1 in
    by_test (is_inside s settings m.event.terminal)
    (λ here.
    let law : InsideTransition s settings m.event world = inside_transitions s settings m.event world closed fit here in
    record {
      steps = rw here (law.transition m.reply m.after h.0, rest.steps);
      lines = rw here (ap (λ es. (m.event, m.reply) ∷ es) rest.lines);
      left = rw here rest.left;
    })
    (λ away.
    let law : OutsideTransition s settings m.event world = outside_transitions s settings m.event world closed away in
    let same = law.transition m.reply m.after h.0 in
    record {
      steps = rw away (subst (λ v. Trace (cut_settings s settings) v (cut_trace s settings ms)) same rest.steps);
      lines = rw away rest.lines;
      left = rw away (ap (λ v. left_by v (cut_trace s settings ms)) (sym same) ∙ rest.left);
    })

pub histories_keep_fit : HistoriesKeepFit
histories_keep_fit settings world after [] h fit = subst (λ v. IsFit settings v.shared) (sym h) fit
histories_keep_fit settings world after (e ∷ es) h fit = histories_keep_fit settings h.0 after es h.2 (transitions_keep_fit settings e.0 e.1 world h.0 h.1 fit)

-- ---- the replies alone

abbrev head_or : {A : Type 0} → A → List A → A
head_or a [] = a
head_or a (x ∷ xs) = x

abbrev tail : {A : Type 0} → List A → List A
tail [] = []
tail (x ∷ xs) = xs

-- lines with the replies of normal transitions are these lines answered
lines_answered : (settings : Settings) (world : World) (es : List (Event × Reply)) → map (λ e. e.1) es ≡ replies settings world (events_of es) → es ≡ answered settings world (events_of es)
lines_answered settings world [] h = refl
lines_answered settings world (e ∷ es) h =
    let first : e.1 ≡ (normal settings e.0 world).0 = ap (head_or e.1) h in
    let rest = lines_answered settings (normal settings e.0 world).1 es (ap tail h) in
    λ i. (e.0, first i) ∷ rest i

pub events_of_part : (s : Accounts) (settings : Settings) (es : List (Event × Reply)) → events_of (part s settings es) ≡ cut_events s settings (events_of es)
events_of_part s settings es = map_filter (λ e. e.0) (λ e. is_inside s settings e.terminal) es

pub part_is_alone : PartIsAlone
part_is_alone s settings world after es closed fit h none =
    let low = cut_settings s settings in
    let start = cut_world s settings world in
    let h' = part_is_history s settings world after es closed fit h in
    let own = history_is_normal low start (cut_world s settings after) (part s settings es) h' none in
    record {
      lines = lines_answered low start (part s settings es) own.0 ∙ ap (answered low start) (events_of_part s settings es);
      left = own.1 ∙ ap (world_after low start) (events_of_part s settings es);
    }

-- ---- the interpreter

none_failed : (settings : Settings) (world : World) (events : List Event) → NoneFailed (answered settings world events)
none_failed settings world [] = tt
none_failed settings world (e ∷ events) = (normal_never_fails settings e world, none_failed settings (normal settings e world).1 events)

none_of_part : (s : Accounts) (settings : Settings) (es : List (Event × Reply)) → NoneFailed es → NoneFailed (part s settings es)
none_of_part s settings [] h = tt
none_of_part s settings (e ∷ es) h =
    let rest = none_of_part s settings es h.1 in
    by_test (is_inside s settings e.0.terminal) (λ here. rw here (h.0, rest)) (λ away. rw away rest)

events_answered : (settings : Settings) (world : World) (events : List Event) → events_of (answered settings world events) ≡ events
events_answered settings world [] = refl
events_answered settings world (e ∷ events) = ap (λ es. e ∷ es) (events_answered settings (normal settings e world).1 events)

pub interpreter_isolates : InterpreterIsolates
interpreter_isolates s settings world events closed fit =
    let es = answered settings world events in
    let law : IsAlone s settings world (world_after settings world events) es =
    part_is_alone s settings world (world_after settings world events) es closed fit (normal_transitions_are_history settings world events)
    (none_of_part s settings es (none_failed settings world events)) in
    law.lines ∙ ap (alone s settings world) (events_answered settings world events)

-- ---- an account's own terminals

-- they are among those of any set that has it
own_part : (s : Accounts) (settings : Settings) (a : Text) → s a ≡ true → (es : List (Event × Reply)) → part (only a) settings (part s settings es) ≡ part (only a) settings es
own_part s settings a m es = part_of_part (only a) s settings (only_among s a m) es

-- ---- the theorem

pub opening_is_fit : OpeningIsFit
opening_is_fit settings globals h n e = let none : None ≡ Some n = sym (get-empty held_cmp h) ∙ e in absurd (cc)

pub isolation : Isolation
isolation settings a globals es after h none =
    let least : IsLeastClosed settings a (reachers settings a) = reach_is_least_closed settings a in
    let law : IsAlone (reachers settings a) settings (opening globals) after es = part_is_alone (reachers settings a) settings (opening globals) after es least.closed (opening_is_fit settings globals) h none in
    sym (own_part (reachers settings a) settings a least.has es) ∙ ap (part (only a) settings) law.lines

cut_none : {K X : Type 0} {R : K → K → Ordering} → IsTotalOrder R → IsAntisymmetric R → (p : K → Bool) → retain_keys {X = X} (empty {R = R}) p ≡ empty
cut_none {X = X} {R = R} total exact p = same_map total exact _ _ (λ q. get_cut total exact empty p q ∙ nothing (p q) (get-empty {X = X} R q) ∙ sym (get-empty R q))
  where
    nothing : (b : Bool) {o : Option X} → o ≡ None → cond b o None ≡ None
    nothing true e = e
    nothing false e = refl

pub opening_is_cut : OpeningIsCut
opening_is_cut s settings globals = λ i. record {
  shared = record {
    globals = retain_keys globals (λ n. s n.account);
    locks = cut_none held_cmp_total held_cmp_exact (λ h. is_inside s settings h.terminal) i;
  };
  sessions = cut_none nat_cmp_total nat_cmp-IsAntisymmetric (is_inside s settings) i;
}

-- ---- agreement

module _ (a : Text) where
  abbrev tied : Run → Accounts
  tied r = reachers r.settings a

  -- what is left of a run's lines, and of its world after them
  abbrev lines_alone : Run → List (Event × Reply)
  lines_alone r = answered (cut_settings (tied r) r.settings) (cut_world (tied r) r.settings r.world) (cut_events (tied r) r.settings r.events)

  abbrev left_alone : Run → World
  left_alone r = world_after (cut_settings (tied r) r.settings) (cut_world (tied r) r.settings r.world) (cut_events (tied r) r.settings r.events)

  run_alone : (r : Run) → IsFit r.settings r.world.shared → (es : List (Event × Reply)) (after : World) → Answered a r es after
      → (part (tied r) r.settings es ≡ lines_alone r) × (cut_world (tied r) r.settings after ≡ left_alone r)
  run_alone r fit es after h =
      let least : IsLeastClosed r.settings a (tied r) = reach_is_least_closed r.settings a in
      let law : IsAlone (tied r) r.settings r.world after es = part_is_alone (tied r) r.settings r.world after es least.closed fit h.history h.none_failed in (
        law.lines ∙ ap (alone (tied r) r.settings r.world) h.events,
        law.left ∙ ap (λ events. world_after (cut_settings (tied r) r.settings) (cut_world (tied r) r.settings r.world) (cut_events (tied r) r.settings events)) h.events,
      )

  own_of_part : (r : Run) (es : List (Event × Reply)) → part (only a) r.settings es ≡ part (only a) (cut_settings (tied r) r.settings) (part (tied r) r.settings es)
  own_of_part r es =
      let least : IsLeastClosed r.settings a (tied r) = reach_is_least_closed r.settings a in
      sym (part_kept (only a) (tied r) r.settings (only_among (tied r) a least.has) es)

  same_lines : (one two : Run) → Agree a one two → lines_alone one ≡ lines_alone two
  same_lines one two agree =
      answered_alike (cut_settings (tied one) one.settings) (cut_settings (tied two) two.settings) agree.settings (cut_events (tied one) one.settings one.events)
      (cut_world (tied one) one.settings one.world) (cut_world (tied two) two.settings two.world) agree.world
      ∙ ap (answered (cut_settings (tied two) two.settings) (cut_world (tied two) two.settings two.world)) agree.events

  same_left : (one two : Run) → Agree a one two → AlikeWorlds (left_alone one) (left_alone two)
  same_left one two agree =
      subst (λ (events : List Event). AlikeWorlds (left_alone one) (world_after (cut_settings (tied two) two.settings) (cut_world (tied two) two.settings two.world) events)) agree.events
      (left_alike (cut_settings (tied one) one.settings) (cut_settings (tied two) two.settings) agree.settings (cut_events (tied one) one.settings one.events)
      (cut_world (tied one) one.settings one.world) (cut_world (tied two) two.settings two.world) agree.world)

  equal_left : (one two : Run) → Agree a one two → cut_world (tied one) one.settings one.world ≡ cut_world (tied two) two.settings two.world → left_alone one ≡ left_alone two
  equal_left one two agree e =
      left_equal (cut_settings (tied one) one.settings) (cut_settings (tied two) two.settings) agree.settings (cut_events (tied one) one.settings one.events) (cut_world (tied one) one.settings one.world)
      ∙ (λ i. world_after (cut_settings (tied two) two.settings) (e i) (agree.events i))

  -- an account's own terminals are the same in both
  own_same : (one two : Run) → Agree a one two → (es : List (Event × Reply)) → part (only a) (cut_settings (tied one) one.settings) es ≡ part (only a) (cut_settings (tied two) two.settings) es
  own_same one two agree es =
      filter_agree (λ e. is_inside (only a) (cut_settings (tied one) one.settings) e.0.terminal) (λ e. is_inside (only a) (cut_settings (tied two) two.settings) e.0.terminal)
      (λ e. ap (is_member (only a)) (agree.settings.terminals e.0.terminal)) es

pub agreeing_replies : AgreeingReplies
agreeing_replies a one two agree fit fit' es fs first second h k =
    let low = run_alone a one fit es first h in
    let high = run_alone a two fit' fs second k in
    let same = low.0 ∙ same_lines a one two agree ∙ sym high.0 in
    record {
      reaching = same;
      own =
          own_of_part a one es ∙ ap (part (only a) (cut_settings (reachers one.settings a) one.settings)) same
          ∙ own_same a one two agree (part (reachers two.settings a) two.settings fs) ∙ sym (own_of_part a two fs);
      left = subst₂ AlikeWorlds (sym low.1) (sym high.1) (same_left a one two agree);
      equal = λ e. low.1 ∙ equal_left a one two agree e ∙ sym high.1;
    }

-- ---- the promise

pub promise_is_kept : PromiseIsKept
promise_is_kept settings a globals es after h none = record {
  alone = isolation settings a globals es after h none;
  elsewhere = λ settings' globals' es' after' agree h' none'.
      let same : SameReplies a (sent_to settings globals es) (sent_to settings' globals' es') es es' after after' =
      agreeing_replies a (sent_to settings globals es) (sent_to settings' globals' es') agree (opening_is_fit settings globals) (opening_is_fit settings' globals') es es' after after'
      (record { events = refl; history = h; none_failed = none }) (record { events = refl; history = h'; none_failed = none' }) in
      same.own;
}
