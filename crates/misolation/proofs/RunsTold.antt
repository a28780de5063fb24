-- SPDX-License-Identifier: Apache-2.0
-- What a run of lines tells an account, transition by transition, apart, and alone.
use Rattle.misolation.proofs.IsolationWords.{◌≡◌, List, [], ◌∷◌, ◌++◌, map, refl, sym, ap, ◌∙◌, subst, Settings, World, Event, Reply, History, NoneFailed}
use Rattle.misolation.proofs.IsolationWords.{reachers, is_inside, cut_settings, cut_events, part, IsLeastClosed, IsAlone, SameReplies, map-append}
use Rattle.misolation.proofs.IsolationWords.{filter-append, IsTrue, ◌↔◌, alone, only}
use Rattle.misolation.specs.Telling.{told_by, told_to}
use Rattle.misolation.specs.RunLaws.{NothingIsTold, TellsOn, ToldApart, EquallyTold, ToldTheSame}
use Rattle.misolation.proofs.PartsOfParts.{part_of_part, part_kept, only_among, same_part}
use Rattle.misolation.proofs.Reaching.{reach_is_least_closed}
use Rattle.misolation.proofs.ReachKept.{reach_is_kept}
use Rattle.misolation.proofs.PartsAlone.{part_is_history, part_is_alone, events_of_part, agreeing_replies}

-- ---- transition by transition

pub nothing_is_told : NothingIsTold
nothing_is_told a settings world = record { lines = []; sent = refl; history = refl; replies = refl; failures = (λ _. tt, λ _. refl) }

pub history_on : (settings : Settings) (world between after : World) (es fs : List (Event × Reply)) → History settings world es between → History settings between fs after → History settings world (es ++ fs) after
history_on settings world between after [] fs h k = subst (λ v. History settings v fs after) h k
history_on settings world between after (e ∷ es) fs h k = (h.0, h.1, history_on settings h.0 between after es fs h.2 k)

none_on : (es fs : List (Event × Reply)) → NoneFailed es → NoneFailed fs → NoneFailed (es ++ fs)
none_on [] fs h k = k
none_on (e ∷ es) fs h k = (h.0, none_on es fs h.1 k)

none_parts : (es fs : List (Event × Reply)) → NoneFailed (es ++ fs) → NoneFailed es × NoneFailed fs
none_parts [] fs h = (tt, h)
none_parts (e ∷ es) fs h = let rest = none_parts es fs h.1 in ((h.0, rest.0), rest.1)

pub tells_on : TellsOn
tells_on a settings world between after events told whole h e reply transition more is = record {
  lines = h.lines ++ last;
  sent = map-append (λ (x : Event × Reply). x.0) h.lines last ∙ ap (λ es. es ++ e ∷ []) h.sent;
  history = history_on settings world between after h.lines last h.history (after, transition, refl);
  replies =
      ap (map told_by) (filter-append (λ (x : Event × Reply). is_inside (only a) settings x.0.terminal) h.lines last)
      ∙ map-append told_by (part (only a) settings h.lines) (part (only a) settings last)
      ∙ ap (λ ts. ts ++ told_to a settings last) h.replies;
  failures = subst (λ es. IsTrue more ↔ NoneFailed es) (sym reaching) (
    λ m. let both = is.0 m in none_on (part (reachers settings a) settings h.lines) (part (reachers settings a) settings last) (h.failures.0 both.0) both.1,
    λ n. let both = none_parts (part (reachers settings a) settings h.lines) (part (reachers settings a) settings last) n in is.1 (h.failures.1 both.0, both.1),
  );
}
  where
    last : List (Event × Reply)
    last = (e, reply) ∷ []

    reaching : part (reachers settings a) settings (h.lines ++ last) ≡ part (reachers settings a) settings h.lines ++ part (reachers settings a) settings last
    reaching = filter-append (λ (x : Event × Reply). is_inside (reachers settings a) settings x.0.terminal) h.lines last

-- ---- apart

pub told_apart : ToldApart
told_apart s a settings world after events told whole closed m fit h = record {
  tells = record {
    lines = part s settings h.lines;
    sent = events_of_part s settings h.lines ∙ ap (cut_events s settings) h.sent;
    history = part_is_history s settings world after h.lines closed fit h.history;
    replies = ap (map told_by) (part_kept (only a) s settings (only_among s a m) h.lines) ∙ h.replies;
    failures = subst (λ es. IsTrue whole ↔ NoneFailed es) (sym reaching) h.failures;
  };
  part_of = refl;
}
  where
    least : IsLeastClosed settings a (reachers settings a)
    least = reach_is_least_closed settings a

    reaching : part (reachers (cut_settings s settings) a) (cut_settings s settings) (part s settings h.lines) ≡ part (reachers settings a) settings h.lines
    reaching =
        same_part (reachers (cut_settings s settings) a) (reachers settings a) (cut_settings s settings) (reach_is_kept s settings a closed m) (part s settings h.lines)
        ∙ part_kept (reachers settings a) s settings (least.least s closed m) h.lines

-- ---- alone

pub equally_told : EquallyTold
equally_told a settings world after events told fit h =
    let least : IsLeastClosed settings a (reachers settings a) = reach_is_least_closed settings a in
    let law : IsAlone (reachers settings a) settings world after h.lines = part_is_alone (reachers settings a) settings world after h.lines least.closed fit h.history (h.failures.0 refl) in
    sym h.replies
    ∙ ap (map told_by) (sym (part_of_part (only a) (reachers settings a) settings (only_among (reachers settings a) a least.has) h.lines))
    ∙ ap (told_to a settings) (law.lines ∙ ap (alone (reachers settings a) settings world) h.sent)

pub told_the_same : ToldTheSame
told_the_same a one two agree fit fit' first second told told' h k =
    let law : SameReplies a one two h.lines k.lines first second = agreeing_replies a one two agree fit fit' h.lines k.lines first second
    (record { events = h.sent; history = h.history; none_failed = h.failures.0 refl })
    (record { events = k.sent; history = k.history; none_failed = k.failures.0 refl }) in
    sym h.replies ∙ ap (map told_by) law.own ∙ k.replies
