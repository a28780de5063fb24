-- SPDX-License-Identifier: Apache-2.0
-- The replies that one account is shown, sent one after another.
use Rattle.mworld.specs.Sufficed.{StoreSufficedForTold}
use Rattle.mwire.proofs.WireWords.{IsTrue, doubt_of, DoubtsOver, Doubts-same, false, arith, ◌≡◌, ℕ, ◌+◌, ◌<◌, Bool, true, List, [], ◌∷◌, ◌++◌, Option, map}
use Rattle.mwire.proofs.WireWords.{take, drop, length, get_or, refl, sym, ap, ◌∙◌, subst, append_assoc, inl, map-append, take-append-drop, Appends-trans}
use Rattle.mwire.proofs.WireWords.{Appends-nil, Appends, Consumes, IsAtEnd, lines, Text, Event, Ghosts, settings_of, world_of, IsTold, IsEquallyTold}
use Rattle.mwire.proofs.WireWords.{IsToldEach, IsToldUntilShut, RanFirst, RanUntilShut, events_of, reply_text, told_text, RanOnly, ServeOnlyCutShort}
use Rattle.mwire.proofs.WireWords.{ServesOnly, FrontSent, WireFault, Read, Write, Memory, ◌≢◌, Ok, Err}
use Rattle.std.proofs.lemmas.List.{append-nil}
use Rattle.std.proofs.lemmas.Grind.{flat_map-append}
use Rattle.mspec.specs.Access.{name_at}
use Rattle.misolation.specs.Telling.{Told}
use Rattle.mworld.specs.declared.world.World.{World}
use Rattle.mworld.proofs.Tellings.{take_on}
use Rattle.mwire.proofs.Sends.{FrontSent-whole}

abbrev shown : Told → Text
shown t = reply_text t.terminal t.reply

-- ---- one after another

module _ {X : Type 0} (f : X → Told) (xs : List X) (i : ℕ) (x : X) (within : i < length xs) (is : x ≡ get_or xs i x) where
  text_on : told_text (map f (take (i + 1) xs)) ≡ told_text (map f (take i xs)) ++ shown (f x)
  text_on =
      ap told_text (take_on f xs i x within is) ∙ flat_map-append shown (map f (take i xs)) (f x ∷ [])
      ∙ ap (λ t. told_text (map f (take i xs)) ++ t) (append-nil (shown (f x)))

  text_split : told_text (map f xs) ≡ (told_text (map f (take i xs)) ++ shown (f x)) ++ told_text (map f (drop (i + 1) xs))
  text_split =
      sym (ap (λ ys. told_text (map f ys)) (take-append-drop (i + 1) xs))
      ∙ ap told_text (map-append f (take (i + 1) xs) (drop (i + 1) xs))
      ∙ flat_map-append shown (map f (take (i + 1) xs)) (map f (drop (i + 1) xs))
      ∙ ap (λ t. t ++ told_text (map f (drop (i + 1) xs))) text_on

  -- the whole of one more
  pub sent_on : (before now after : Option Text) → Appends before now (told_text (map f (take i xs))) → FrontSent (shown (f x)) now after true → Appends before after (told_text (map f (take (i + 1) xs)))
  sent_on before now after a s =
      subst (Appends before after) (ap (λ t. told_text (map f (take i xs)) ++ t) (sym (FrontSent-whole s)) ∙ sym text_on)
      (Appends-trans before now after (told_text (map f (take i xs))) s.part a s.appended)

  -- or a front of it
  pub sent_until : (before now after : Option Text) (b whole : Bool) → (whole ≡ true → ⊥) → Appends before now (told_text (map f (take i xs))) → FrontSent (shown (f x)) now after b → FrontSent (told_text (map f xs)) before after whole
  sent_until before now after b whole never a s = record {
    part = told_text (map f (take i xs)) ++ s.part;
    unsent = s.unsent ++ told_text (map f (drop (i + 1) xs));
    of_bytes =
        text_split
        ∙ ap (λ t. (told_text (map f (take i xs)) ++ t) ++ told_text (map f (drop (i + 1) xs))) s.of_bytes
        ∙ ap (λ t. t ++ told_text (map f (drop (i + 1) xs))) (sym (append_assoc (told_text (map f (take i xs))) s.part s.unsent))
        ∙ append_assoc (told_text (map f (take i xs)) ++ s.part) s.unsent (told_text (map f (drop (i + 1) xs)));
    all_sent = λ e. absurd (never e);
    appended = Appends-trans before now after (told_text (map f (take i xs))) s.part a s.appended;
  }

pub sent_all : (bytes : Text) (before after : Option Text) (whole : Bool) → Appends before after bytes → FrontSent bytes before after whole
sent_all bytes before after whole a = record { part = bytes; unsent = []; of_bytes = sym (append-nil bytes); all_sent = λ e. refl; appended = a }

-- ---- how a stream ends

module _ {S : Type 0} (g : Ghosts S) (old new : World S g) (account : ℕ) (left left' held held' : Option Text) (read : Text) (consumed : Consumes left left' read) where
  -- a fault of the reading
  pub unread : (fault : WireFault) → fault ≢ Write → new ≡ old → held' ≡ held → ServesOnly g old account left left' held held' (Err fault) new
  unread fault other same kept = record {
    read = read;
    consumed = consumed;
    sent = [];
    appended = subst (λ h. Appends held h []) (sym kept) (Appends-nil held);
    doubt = subst (λ w. DoubtsOver g old.store w.store false) (sym same) (Doubts-same _);
    outcome = broke fault other;
  }
    where
      broke : (e : WireFault) → e ≢ Write → ServeOnlyCutShort g old account left' (events_of (lines read)) [] new e
      broke Read o = (refl, same)
      broke Write o = absurd (o refl)
      broke Memory o = inl (
        refl,
        λ sound. record { count = 0; lines = []; sent = refl; history = ap (world_of g) same },
        λ before now. absurd (omega (arith, before, now, ap (doubt_of g) same)),
      )

  -- out of memory for what is shown
  pub untold : (es : List Event) → es ≡ events_of (lines read) → (doubt_of g new ≡ 0 → RanFirst (settings_of old) (world_of g old) es (world_of g new))
      → (doubt_of g old ≡ 0 → doubt_of g new ≡ 1 → RanUntilShut (settings_of old) (world_of g old) es)
      → DoubtsOver g old.store new.store false → held' ≡ held → ServesOnly g old account left left' held held' (Err Memory) new
  untold es same first until_shut doubt kept = record {
    read = read;
    consumed = consumed;
    sent = [];
    appended = subst (λ h. Appends held h []) (sym kept) (Appends-nil held);
    doubt = doubt;
    outcome = inl (
      refl,
      λ sure. subst (λ xs. RanFirst (settings_of old) (world_of g old) xs (world_of g new)) same (first sure),
      λ before now. subst (RanUntilShut (settings_of old) (world_of g old)) same (until_shut before now),
    );
  }

  module _ (at_end : IsAtEnd left') (bytes : Text) (whole : Bool) (ran : RanOnly g old account (events_of (lines read)) bytes whole new) (doubt : DoubtsOver g old.store new.store false) where
    -- a fault of the writing
    pub unwritten : (fault : WireFault) → fault ≢ Read → (b : Bool) → FrontSent bytes held held' b → ServesOnly g old account left left' held held' (Err fault) new
    unwritten fault other b s = grind arith

    pub written : FrontSent bytes held held' true → ServesOnly g old account left left' held held' (Ok whole) new
    written s = record { read = read; consumed = consumed; sent = bytes; appended = subst (Appends held held') (sym (FrontSent-whole s)) s.appended; doubt = doubt; outcome = (at_end, ran) }

-- what was told of a slice's events, of a stream's
pub ran_only : {S : Type 0} (g : Ghosts S) (old new : World S g) (account : ℕ) (es es' : List Event) → es ≡ es' → (replies : List Told) (bytes : Text) (whole : Bool) → bytes ≡ told_text replies
    → IsToldEach (name_at (settings_of old) account) (settings_of old) es replies
    → (doubt_of g new ≡ 0 → IsTold g old account es replies whole new)
    → (doubt_of g new ≡ 0 → IsEquallyTold g old account es replies whole)
    → (doubt_of g old ≡ 0 → doubt_of g new ≡ 1 → IsToldUntilShut (name_at (settings_of old) account) (settings_of old) (world_of g old) es replies whole)
    → (g.steady → IsTrue (g.has_room new.store) → StoreSufficedForTold replies)
    → RanOnly g old account es' bytes whole new
ran_only g old new account es es' same replies bytes whole text each told alone until_shut sufficed = grind arith
