-- SPDX-License-Identifier: Apache-2.0
-- A run of events on whose way a fault shuts the store.
use Rattle.mworld.proofs.WorldWords.{◌≡◌, ℕ, zero, suc, Bool, true, false, not, List, [], ◌∷◌, ◌++◌, map, take, drop, length, get_or, ◌+◌, ◌<◌, arith, refl}
use Rattle.mworld.proofs.WorldWords.{sym, ap, ◌∙◌, subst, IsTrue, append-nil, append_assoc, map-append, take-append-drop, Doubts, is_kept_by, ending_of}
use Rattle.mworld.proofs.WorldWords.{is_lost, is_failure, fault_of, AreFit, Settings, World, Event, Told, told_to, Tells, told_apart, equally_told}
use Rattle.mworld.proofs.WorldWords.{IsToldBetween, IsToldUntilShut, RanUntilShut, TellsOne}
use Rattle.mspec.specs.Node.{Text}
use Rattle.mmeaning.specs.Transition.{Reply}
use Rattle.misolation.specs.Cut.{IsFit}
use Rattle.misolation.specs.Reach.{reachers}
use Rattle.misolation.specs.Alone.{alone}
use Rattle.misolation.specs.HistoryLaws.{events_of}
use Rattle.mexec.specs.declared.text.Ended.{Ended}
use Rattle.mexec.specs.declared.text.Ended.TheVariants.{Done, Halt, Fault}
use Rattle.mworld.proofs.Promised.{promised, reaching_alone}
use Rattle.mworld.proofs.Tellings.{take_on}

-- ---- the line that shuts the store

is_so : (b : Bool) → not b ≡ false → IsTrue b
is_so true e = refl
is_so false e = cc

fails : (ending : Ended) → is_kept_by ending ≡ false → IsTrue (is_failure (ending_of ending))
fails Done e = cc
fails Halt e = cc
fails (Fault c) e = is_so (is_lost (fault_of c)) e

-- its reply is a failure
pub shut_by : {sound : Type 0} {old new : ℕ} {had_room has_room : Bool} (ending : Ended) → Doubts sound old new had_room has_room (is_kept_by ending) → old ≡ 0 → new ≡ 1 → IsTrue (is_failure (ending_of ending))
shut_by ending d before now = fails ending (d.failed before now)

module _ (a : Text) (settings : Settings) (world : World) (fit : IsFit settings world.shared) where
  -- ---- what a run tells

  pub told_between : (after : World) (events : List Event) (told : List Told) (whole : Bool) → Tells a settings world events told whole after → IsToldBetween a settings world events told whole after
  told_between after events told whole run = record {
    run = run;
    apart = λ s closed member. told_apart s a settings world after events told whole closed member fit run;
    reaching = λ is. reaching_alone a settings world after events told whole fit run is;
    promise = promised settings world after run.lines run.history;
  }

  pub told_alone : (after : World) (events : List Event) (told : List Told) (whole : Bool) → Tells a settings world events told whole after → IsTrue whole → told ≡ told_to a settings (alone (reachers settings a) settings world events)
  told_alone after events told whole run is = equally_told a settings world after events told fit (subst (λ b. Tells a settings world events told b after) is run)

  module _ (events : List Event) (told : List Told) (whole : Bool) (e : Event) (reply : Reply) where
    -- ---- and one event more

    module _ {told' : List Told} {whole' : Bool} (one : TellsOne a settings e reply told whole told' whole') where
      -- that shuts the store
      now_shut : (between : World) → Tells a settings world events told whole between → IsTrue (is_failure reply.ending) → IsToldUntilShut a settings world (events ++ e ∷ []) told' whole'
      now_shut between run failed = record {
        done = events;
        last = e;
        others = [];
        of_events = refl;
        reply = reply;
        failed = failed;
        first = told;
        more = [];
        of_told = one.replies ∙ sym (append-nil (told ++ told_to a settings ((e, reply) ∷ [])));
        first_whole = whole;
        failures = λ is. one.failures.0 is;
        between = between;
        before = told_between between events told whole run;
        alone = λ is. told_alone between events told whole run is;
      }

      -- after one that did
      still_shut : IsToldUntilShut a settings world events told whole → IsToldUntilShut a settings world (events ++ e ∷ []) told' whole'
      still_shut u = record {
        done = u.done;
        last = u.last;
        others = u.others ++ e ∷ [];
        of_events = ap (λ es. es ++ e ∷ []) u.of_events ∙ append_assoc u.done (u.last ∷ u.others) (e ∷ []);
        reply = u.reply;
        failed = u.failed;
        first = u.first;
        more = u.more ++ told_to a settings ((e, reply) ∷ []);
        of_told =
            one.replies ∙ ap (λ ts. ts ++ told_to a settings ((e, reply) ∷ [])) u.of_told
            ∙ append_assoc (u.first ++ told_to a settings ((u.last, u.reply) ∷ [])) u.more (told_to a settings ((e, reply) ∷ []));
        first_whole = u.first_whole;
        failures = λ is. u.failures (one.failures.0 is).0;
        between = u.between;
        before = u.before;
        alone = u.alone;
      }

    -- ---- by the doubt before it

    module _ (between : World) where
      abbrev Before : ℕ → Type 0
      Before mid = (mid ≡ 0 → Tells a settings world events told whole between) × (mid ≡ 1 → IsToldUntilShut a settings world events told whole)

      pub shut_on : {sound : Type 0} {had_room has_room is_done : Bool} {told' : List Told} {whole' : Bool} (mid new : ℕ) → Doubts sound mid new had_room has_room is_done → new ≡ 1 → Before mid → (mid ≡ 0 → new ≡ 1 → IsTrue (is_failure reply.ending))
          → TellsOne a settings e reply told whole told' whole' → IsToldUntilShut a settings world (events ++ e ∷ []) told' whole'
      shut_on zero new d now before failed one = now_shut one between (before.0 refl) (failed refl now)
      shut_on (suc zero) new d now before failed one = still_shut one (before.1 refl)
      shut_on (suc (suc n)) new d now before failed one = absurd (omega (arith, d.order, now))

      -- if the run ends early
      pub shut_early : {sound : Type 0} {had_room has_room is_done : Bool} (rest : List Event) (mid new : ℕ) → Doubts sound mid new had_room has_room is_done → new ≡ 1 → Before mid → (mid ≡ 0 → new ≡ 1 → IsTrue (is_failure reply.ending)) → RanUntilShut settings world (events ++ e ∷ rest)
      shut_early rest zero new d now before failed = let run = before.0 refl in record {
        done = run.lines;
        last = (e, reply);
        others = rest;
        of_events = ap (λ es. es ++ e ∷ rest) (sym run.sent);
        between = between;
        history = run.history;
        failed = failed refl now;
      }
      shut_early rest (suc zero) new d now before failed = let u = before.1 refl in record {
        done = u.before.run.lines;
        last = (u.last, u.reply);
        others = u.others ++ e ∷ rest;
        of_events =
            ap (λ es. es ++ e ∷ rest) u.of_events ∙ append_assoc u.done (u.last ∷ u.others) (e ∷ rest)
            ∙ ap (λ es. es ++ u.last ∷ (u.others ++ e ∷ rest)) (sym u.before.run.sent);
        between = u.between;
        history = u.before.run.history;
        failed = u.failed;
      }
      shut_early rest (suc (suc n)) new d now before failed = absurd (omega (arith, d.order, now))

-- all events, by one of them
pub split_at : {X : Type 0} (f : X → Event) (xs : List X) (i : ℕ) (x : X) → i < length xs → x ≡ get_or xs i x → map f xs ≡ map f (take i xs) ++ f x ∷ map f (drop (i + 1) xs)
split_at f xs i x within is =
    sym (ap (map f) (take-append-drop (i + 1) xs))
    ∙ map-append f (take (i + 1) xs) (drop (i + 1) xs)
    ∙ ap (λ es. es ++ map f (drop (i + 1) xs)) (take_on f xs i x within is)
    ∙ append_assoc (map f (take i xs)) (f x ∷ []) (map f (drop (i + 1) xs))
