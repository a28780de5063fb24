-- SPDX-License-Identifier: Apache-2.0
-- Settings of the same entries allow the same, also between the members of a set, and the same accounts reach each.
use Rattle.misolation.proofs.IsolationWords.{◌≡◌, ℕ, Bool, true, false, cond, ◌&&◌, ◌||◌, List, [], ◌∷◌, Option, None, refl, sym, ap, ◌∙◌, subst, ⊎_elim}
use Rattle.misolation.proofs.IsolationWords.{or_cases, and_parts, and_from, or_left, or_right, nat_cmp_total, any-filter_same, bytes_decides, get, retain_keys}
use Rattle.misolation.proofs.IsolationWords.{nat_cmp-IsAntisymmetric, filter, list_any, Text, text_eq, carries, Reaches, itself, through, get_cut, Session}
use Rattle.misolation.proofs.IsolationWords.{session_or_new, World, Event, Accounts, reachers, is_member, is_inside, is_between, cut_settings, cut_world}
use Rattle.misolation.proofs.IsolationWords.{cut_events, one_truth, Mode, Read, Write, Account, Grant, Settings, allows, lets, may, AlikeSettings, AlikeWorlds}
use Rattle.misolation.proofs.IsolationWords.{AllowsAll, SameEntries, SameEntriesAgree}
use Rattle.misolation.proofs.Access.{any_more, let_by}
use Rattle.misolation.proofs.Reaching.{reach_is_chains}

-- ---- one grant in the place of another

allows_on : (a b c : Mode) → allows a b ≡ true → allows b c ≡ true → allows a c ≡ true
allows_on Write b c e f = refl
allows_on Read Read c e f = f
allows_on Read Write c e f = absurd (cc)

-- what a grant lets an account do, one lets it that allows as much
lets_on : (me owner name : Text) (mode : Mode) (g h : Grant) → lets me owner name mode g ≡ true → lets g.to g.from g.global g.mode h ≡ true → lets me owner name mode h ≡ true
lets_on me owner name mode g h e f =
    let ends = and_parts (text_eq owner g.from && text_eq me g.to) _ e in
    let both = and_parts (text_eq owner g.from) (text_eq me g.to) ends.0 in
    let rest = and_parts (text_eq name g.global) (allows g.mode mode) ends.1 in
    let ends' = and_parts (text_eq g.from h.from && text_eq g.to h.to) _ f in
    let both' = and_parts (text_eq g.from h.from) (text_eq g.to h.to) ends'.0 in
    let rest' = and_parts (text_eq g.global h.global) (allows h.mode g.mode) ends'.1 in
    and_from _ _
    (and_from _ _
    (ap (λ t. text_eq t h.from) ((bytes_decides owner g.from).0 both.0) ∙ both'.0)
    (ap (λ t. text_eq t h.to) ((bytes_decides me g.to).0 both.1) ∙ both'.1))
    (and_from _ _
    (ap (λ t. text_eq t h.global) ((bytes_decides name g.global).0 rest.0) ∙ rest'.0)
    (allows_on h.mode g.mode mode rest'.1 rest.1))

-- and whom it ties it ties
carries_on : (x y : Text) (g h : Grant) → carries x y g ≡ true → lets g.to g.from g.global g.mode h ≡ true → carries x y h ≡ true
carries_on x y g h e f =
    let ends = and_parts (text_eq g.from h.from && text_eq g.to h.to) _ f in
    let both = and_parts (text_eq g.from h.from) (text_eq g.to h.to) ends.0 in
    let rest = and_parts (text_eq g.global h.global) (allows h.mode g.mode) ends.1 in
    ⊎_elim
    (λ a.
    let own = and_parts (text_eq x g.from) (text_eq y g.to) a in
    or_left _ _ (and_from _ _
    (ap (λ t. text_eq t h.from) ((bytes_decides x g.from).0 own.0) ∙ both.0)
    (ap (λ t. text_eq t h.to) ((bytes_decides y g.to).0 own.1) ∙ both.1)))
    (λ a.
    let back = and_parts (text_eq x g.to && text_eq y g.from) (allows g.mode Write) a in
    let own = and_parts (text_eq x g.to) (text_eq y g.from) back.0 in
    or_right (text_eq x h.from && text_eq y h.to) _ (and_from _ _
    (and_from _ _
    (ap (λ t. text_eq t h.to) ((bytes_decides x g.to).0 own.0) ∙ both.1)
    (ap (λ t. text_eq t h.from) ((bytes_decides y g.from).0 own.1) ∙ both.0))
    (allows_on h.mode g.mode Write rest.1 back.1)))
    (or_cases (text_eq x g.from && text_eq y g.to) _ e)

-- ---- lists of grants

-- a test that goes from a grant to each that allows as much
any_on : (p : Grant → Bool) → ((g h : Grant) → p g ≡ true → lets g.to g.from g.global g.mode h ≡ true → p h ≡ true)
    → (gs hs : List Grant) → AllowsAll gs hs → list_any p gs ≡ true → list_any p hs ≡ true
any_on p on [] hs all e = absurd (cc)
any_on p on (g ∷ gs) hs all e =
    let each = and_parts (list_any (lets g.to g.from g.global g.mode) hs) _ all in
    ⊎_elim
    (λ a. any_more (lets g.to g.from g.global g.mode) p (λ h f. on g h a f) hs each.0)
    (λ a. any_on p on gs hs each.1 a)
    (or_cases (p g) _ e)

module _ (one two : Settings) (same : SameEntries one two) where
  same_any : (p : Grant → Bool) → ((g h : Grant) → p g ≡ true → lets g.to g.from g.global g.mode h ≡ true → p h ≡ true) → list_any p one.grants ≡ list_any p two.grants
  same_any p on = one_truth _ _ (any_on p on one.grants two.grants same.there) (any_on p on two.grants one.grants same.back)

  -- ---- who reaches whom

  flow_same : (x y : Text) → list_any (carries x y) one.grants ≡ list_any (carries x y) two.grants
  flow_same x y = same_any (carries x y) (λ g h e f. carries_on x y g h e f)

  chain_there : (x y : Text) → Reaches one x y → Reaches two x y
  chain_there x y (itself z) = itself z
  chain_there x y (through {y = z} f rest) = through (sym (flow_same x z) ∙ f) (chain_there z y rest)

  chain_back : (x y : Text) → Reaches two x y → Reaches one x y
  chain_back x y (itself z) = itself z
  chain_back x y (through {y = z} f rest) = through (flow_same x z ∙ f) (chain_back z y rest)

  reach_same : (a x : Text) → reachers one a x ≡ reachers two a x
  reach_same a x = one_truth (reachers one a x) (reachers two a x)
      (λ e. (reach_is_chains two a x).1 (chain_there x a ((reach_is_chains one a x).0 e)))
      (λ e. (reach_is_chains one a x).1 (chain_back x a ((reach_is_chains two a x).0 e)))

  -- ---- the cuts to a set

  module _ (s : Accounts) where
    -- a grant that lets an account use what is an owner's is between members when both are
    between_ends : (me owner name : Text) (mode : Mode) (g : Grant) → lets me owner name mode g ≡ true → is_between s g ≡ (s owner && s me)
    between_ends me owner name mode g e = let by = let_by me owner name mode g e in λ i. s (sym by.0 i) && s (sym by.1 i)

    allowed_same : (me owner name : Text) (mode : Mode) → may (cut_settings s one) me owner name mode ≡ may (cut_settings s two) me owner name mode
    allowed_same me owner name mode = ap (λ b. text_eq owner me || b) (
        any-filter_same (lets me owner name mode) (is_between s) (s owner && s me) (between_ends me owner name mode) one.grants
        ∙ ap (λ b. (s owner && s me) && b) (same_any (lets me owner name mode) (λ g h e f. lets_on me owner name mode g h e f))
        ∙ sym (any-filter_same (lets me owner name mode) (is_between s) (s owner && s me) (between_ends me owner name mode) two.grants))

    inside_same : (t : ℕ) → is_inside s one t ≡ is_inside s two t
    inside_same t = ap (is_member s) (same.terminals t)

    settings_alike : AlikeSettings (cut_settings s one) (cut_settings s two)
    settings_alike = record {
      terminals = λ t.
          get_cut nat_cmp_total nat_cmp-IsAntisymmetric one.terminals (is_inside s one) t
          ∙ ap (λ (o : Option Account). cond (is_member s o) o None) (same.terminals t)
          ∙ sym (get_cut nat_cmp_total nat_cmp-IsAntisymmetric two.terminals (is_inside s two) t);
      allowed = allowed_same;
    }

    inside_paths : is_inside s one ≡ is_inside s two
    inside_paths = λ i t. inside_same t i

    events_same : (events : List Event) → cut_events s one events ≡ cut_events s two events
    events_same events = ap (λ (p : ℕ → Bool). filter (λ (e : Event). p e.terminal) events) inside_paths

    session_alike : (b : Bool) (o p : Option Session) → session_or_new o ≡ session_or_new p → session_or_new (cond b o None) ≡ session_or_new (cond b p None)
    session_alike true o p e = e
    session_alike false o p e = refl

    worlds_alike : (first second : World) → AlikeWorlds first second → AlikeWorlds (cut_world s one first) (cut_world s two second)
    worlds_alike first second alike = record {
      shared = λ i. record {
        globals = retain_keys (alike.shared i).globals (λ n. s n.account);
        locks = retain_keys (alike.shared i).locks (λ h. inside_paths i h.terminal);
      };
      sessions = λ t.
          ap session_or_new (get_cut nat_cmp_total nat_cmp-IsAntisymmetric first.sessions (is_inside s one) t)
          ∙ session_alike (is_inside s one t) (get first.sessions t) (get second.sessions t) (alike.sessions t)
          ∙ ap (λ b. session_or_new (cond b (get second.sessions t) None)) (inside_same t)
          ∙ sym (ap session_or_new (get_cut nat_cmp_total nat_cmp-IsAntisymmetric second.sessions (is_inside s two) t));
    }

pub same_entries_agree : SameEntriesAgree
same_entries_agree a one two first second events same alike = record {
  reaching = reach_same one two same a;
  settings = subst (λ (s : Accounts). AlikeSettings (cut_settings (reachers one a) one) (cut_settings s two)) reaches (settings_alike one two same (reachers one a));
  world = subst (λ (s : Accounts). AlikeWorlds (cut_world (reachers one a) one first) (cut_world s two second)) reaches (worlds_alike one two same (reachers one a) first second alike);
  events = events_same one two same (reachers one a) events ∙ ap (λ (s : Accounts). cut_events s two events) reaches;
}
  where
    reaches : reachers one a ≡ reachers two a
    reaches = λ i x. reach_same one two same a x i
