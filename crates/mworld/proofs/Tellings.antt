-- SPDX-License-Identifier: Apache-2.0
-- A run of events goes on by one transition of the program.
use Rattle.mworld.proofs.WorldWords.{◌≡◌, ℕ, ◌+◌, ◌<◌, Bool, true, false, cond, List, [], ◌∷◌, ◌++◌, Option, Some, None, map, take, length, get_or, refl, sym}
use Rattle.mworld.proofs.WorldWords.{ap, ◌∙◌, subst, IsTrue, ◌↔◌, unwrap_or, option_map, Result, Ok, Err, IfErr, IsErr, OnOk, append-nil, map-append, take_more}
use Rattle.mworld.proofs.WorldWords.{take-map, get, Settings, account_at, account_of, name_at, World, Event, Transition, is_failure, is_member, is_inside, part}
use Rattle.mworld.proofs.WorldWords.{Told, told_by, told_to, Tells, tells_on, history_on, IsToldEach, IsUnseen, RanFirst, TellsOne}
use Rattle.std.proofs.lemmas.List.Elements.{filter-append}
use Rattle.std.proofs.lemmas.Bool.{false_from_ne_true}
use Rattle.mspec.specs.Node.{Text}
use Rattle.mspec.specs.Trees.{text_eq}
use Rattle.mspec.specs.Access.{Account}
use Rattle.mspec.specs.Flow.{Reaches}
use Rattle.mmeaning.specs.Transition.{Reply}
use Rattle.mmeaning.specs.History.{History, NoneFailed}
use Rattle.misolation.specs.Reach.{Accounts, reachers}
use Rattle.misolation.specs.Alone.{only}
use Rattle.misolation.proofs.Reaching.{reach_is_chains}
use Rattle.mworld.proofs.Checks.{found}

-- the part of one line, by whether its terminal is inside
part_of_one : (s : Accounts) (settings : Settings) (e : Event) (reply : Reply) (b : Bool) → is_inside s settings e.terminal ≡ b → part s settings ((e, reply) ∷ []) ≡ cond b ((e, reply) ∷ []) []
part_of_one s settings e reply true is = rw is refl
part_of_one s settings e reply false is = rw is refl

-- whether a line failed in it
none_by : (settings : Settings) (a sender : Text) (e : Event) (reply : Reply) (b : Bool) → reachers settings a sender ≡ b → IsUnseen settings sender a reply ↔ NoneFailed (cond b ((e, reply) ∷ []) [])
none_by settings a sender e reply true is = (
  λ unseen. (false_from_ne_true (is_failure reply.ending) (λ failed. unseen failed ((reach_is_chains settings a sender).0 is)), tt),
  λ none failed chain. let no : true ≡ false = sym failed ∙ none.0 in absurd (cc),
)
none_by settings a sender e reply false is = (
  λ unseen. tt,
  λ none failed chain. let no : true ≡ false = sym ((reach_is_chains settings a sender).1 chain) ∙ is in absurd (cc),
)

-- the sender of a line, by its place among the accounts
module _ (settings : Settings) (e : Event) (place : ℕ) (same : account_at settings place ≡ account_of settings e.terminal) (within : place < length settings.accounts) where
  there : (account : Account) × (get settings.terminals e.terminal ≡ Some account)
  there = found settings e.terminal place same within

  named : there.0.name ≡ name_at settings place
  named = sym (ap (λ o. unwrap_or (option_map (λ (x : Account). x.name) o) []) (same ∙ there.1))

  inside : (s : Accounts) → is_inside s settings e.terminal ≡ s (name_at settings place)
  inside s = ap (is_member s) there.1 ∙ ap s named

-- ---- one event more

module _ (a : Text) (settings : Settings) (told : List Told) (whole : Bool) (e : Event) (reply : Reply) where
  tells_by : (b : Bool) → is_inside (only a) settings e.terminal ≡ b → (more : Bool) → (IsTrue more ↔ (IsTrue whole × NoneFailed (part (reachers settings a) settings ((e, reply) ∷ []))))
      → TellsOne a settings e reply told whole (told ++ map told_by (cond b ((e, reply) ∷ []) [])) more
  tells_by b is more iff = record { replies = ap (λ es. told ++ map told_by es) (sym (part_of_one (only a) settings e reply b is)); failures = iff }

  -- at a terminal of no account
  pub nobody_told : get settings.terminals e.terminal ≡ None → TellsOne a settings e reply told whole told whole
  nobody_told none =
      let outside = part_of_one (reachers settings a) settings e reply false (ap (is_member (reachers settings a)) none) in
      subst (λ ts. TellsOne a settings e reply told whole ts whole) (append-nil told)
      (tells_by false (ap (is_member (only a)) none) whole (λ w. (w, subst NoneFailed (sym outside) tt), λ both. both.0))

  module _ (place : ℕ) (same : account_at settings place ≡ account_of settings e.terminal) (within : place < length settings.accounts) (more : Bool) (iff : IsTrue more ↔ (IsTrue whole × IsUnseen settings (name_at settings place) a reply)) where
    abbrev sender : Text
    sender = name_at settings place

    unseen : IsUnseen settings sender a reply ↔ NoneFailed (part (reachers settings a) settings ((e, reply) ∷ []))
    unseen =
        let one = part_of_one (reachers settings a) settings e reply (reachers settings a sender) (inside settings e place same within (reachers settings a)) in
        subst (λ es. IsUnseen settings sender a reply ↔ NoneFailed es) (sym one) (none_by settings a sender e reply (reachers settings a sender) refl)

    still : IsTrue more ↔ (IsTrue whole × NoneFailed (part (reachers settings a) settings ((e, reply) ∷ [])))
    still = (λ m. let both = iff.0 m in (both.0, unseen.0 both.1), λ both. iff.1 (both.0, unseen.1 both.1))

    -- at another account's terminal
    pub other_told : text_eq a sender ≡ false → TellsOne a settings e reply told whole told more
    other_told apart =
        subst (λ ts. TellsOne a settings e reply told whole ts more) (append-nil told)
        (tells_by false (inside settings e place same within (only a) ∙ apart) more still)

    -- at its own
    pub own_told : text_eq a sender ≡ true → TellsOne a settings e reply told whole (told ++ told_by (e, reply) ∷ []) more
    own_told own = tells_by true (inside settings e place same within (only a) ∙ own) more still

module _ {a : Text} {settings : Settings} {told told' : List Told} {whole whole' : Bool} {e : Event} {reply : Reply} (one : TellsOne a settings e reply told whole told' whole') where
  -- by a transition
  pub tells_more : (world between after : World) (events : List Event) → Tells a settings world events told whole between → Transition settings e reply between after → Tells a settings world (events ++ e ∷ []) told' whole' after
  tells_more world between after events h transition =
      subst (λ ts. Tells a settings world (events ++ e ∷ []) ts whole' after) (sym one.replies)
      (tells_on a settings world between after events told whole h e reply transition whole' one.failures)

  -- whatever the store does
  pub each_more : (events : List Event) → IsToldEach a settings events told → IsToldEach a settings (events ++ e ∷ []) told'
  each_more events h = record {
    lines = h.lines ++ last;
    sent = map-append (λ (x : Event × Reply). x.0) h.lines last ∙ ap (λ es. es ++ e ∷ []) h.sent;
    replies =
        ap (map told_by) (filter-append (λ (x : Event × Reply). is_inside (only a) settings x.0.terminal) h.lines last)
        ∙ map-append told_by (part (only a) settings h.lines) (part (only a) settings last)
        ∙ ap (λ ts. ts ++ told_to a settings last) h.replies
        ∙ sym one.replies;
  }
    where
      last : List (Event × Reply)
      last = (e, reply) ∷ []

-- ---- runs of the first of some events

-- by one event more
pub take_on : {X Y : Type 0} (f : X → Y) (xs : List X) (i : ℕ) (x : X) → i < length xs → x ≡ get_or xs i x → map f (take (i + 1) xs) ≡ map f (take i xs) ++ f x ∷ []
take_on f xs i x within is = ap (map f) (take_more xs i x within ∙ ap (λ y. take i xs ++ y ∷ []) (sym is)) ∙ map-append f (take i xs) (x ∷ [])

module _ {X : Type 0} (f : X → Event) (xs : List X) (i : ℕ) (x : X) (a : Text) (settings : Settings) (world between after : World) (told : List Told) (whole : Bool) where
  -- if a run ends early
  pub ran_first : i < length xs → x ≡ get_or xs i x → Tells a settings world (map f (take i xs)) told whole between → (reply : Reply) × Transition settings (f x) reply between after → RanFirst settings world (map f xs) after
  ran_first within is h more = record {
    count = i + 1;
    lines = h.lines ++ (f x, more.0) ∷ [];
    sent =
        map-append (λ (e : Event × Reply). e.0) h.lines ((f x, more.0) ∷ []) ∙ ap (λ es. es ++ f x ∷ []) h.sent
        ∙ sym (take_on f xs i x within is) ∙ sym (take-map f (i + 1) xs);
    history = history_on settings world between after h.lines ((f x, more.0) ∷ []) h.history (after, more.1, refl);
  }

-- an error has nothing of this
pub no_ok : {X E : Type 0} (P : Type 0) (r : Result X E) → IsErr r → OnOk r P
no_ok P (Ok x) h = cc
no_ok P (Err e) h = tt

-- what is so is so whatever the error is
pub whichever : {X E P : Type 0} (r : Result X E) → P → IfErr r (λ _. P)
whichever (Ok x) p = tt
whichever (Err e) p = p
