-- SPDX-License-Identifier: Apache-2.0
-- Chains of grants, by names and by places.
use Rattle.mgrant.proofs.GrantWords.{◌≡◌, ◌⊎◌, inl, inr, ℕ, ◌==◌, ◌<◌, true, List, ◌∷◌, length, map, get_or, Some, All, refl, sym, ap, subst, ◌∙◌, ◌&&◌, Bool}
use Rattle.mgrant.proofs.GrantWords.{◌||◌, [], Option, subst₂, list_any, bytes_decides, and_parts, and_from, or_cases, eqb-true, eq-eqb, false≢true, or_left}
use Rattle.mgrant.proofs.GrantWords.{or_right, All-head, All-tail, list_any_at, Any-from_list_any, Text, text_eq, carries, flows, Reaches, itself, through}
use Rattle.mgrant.proofs.GrantWords.{are_names, is_account_name, leads, Leads, stays, goes, Placed, carries_at, ties_at, named, IsAmong, settings_view}
use Rattle.mgrant.proofs.GrantWords.{names_in, text_in, Account, Edge}
use Rattle.mspec.specs.Access as access
use Rattle.mgrant.proofs.Seen.{me_test, place_is, name_good, name_seen}

-- a test that passes more than another
pub any_more : {X : Type 0} (p q : X → Bool) → ((x : X) → p x ≡ true → q x ≡ true) → (xs : List X) → list_any p xs ≡ true → list_any q xs ≡ true
any_more p q more xs e =
    let (k, x, within, at, is) = Any-from_list_any p xs e in
    list_any_at q xs k x within (more (get_or xs k x) (subst (λ y. p y ≡ true) (sym at) is))

-- the ends of edges are places, if what edges lead to is one
pub targets_within : (n : ℕ) (edges : List Edge) → ((x y : ℕ) → list_any (leads x y) edges ≡ true → y < n) → All (λ e. e.target < n) edges
targets_within n edges far k d within =
    let e = get_or edges k d in
    far e.source e.target (list_any_at (leads e.source e.target) edges k d within (and_from _ _ (eq-eqb e.source e.source refl) (eq-eqb e.target e.target refl)))

tie_on : (a b c d w : Bool) → ((a && b) || ((c && d) && w)) ≡ true → ((a && b) || (c && d)) ≡ true
tie_on a b c d w e =
    elim (or_cases (a && b) ((c && d) && w) e) [
      | inl on ↦ or_left (a && b) _ on
      | inr back ↦ or_right (a && b) _ (and_parts (c && d) w back).0
    ]

-- what flows is tied
pub tied_on : (x y : ℕ) (gs : List Placed) → list_any (carries_at x y) gs ≡ true → list_any (ties_at x y) gs ≡ true
tied_on x y = any_more (carries_at x y) (ties_at x y) (λ g. tie_on (x == g.from) (y == g.to) (x == g.to) (y == g.from) (access.allows g.mode access.Write))

pub tied_within : (n x y : ℕ) (gs : List Placed) → All (IsAmong n) gs → list_any (ties_at x y) gs ≡ true → y < n
tied_within n x y gs among e =
    let (k, g, inside, at, is) = Any-from_list_any (ties_at x y) gs e in
    let here : IsAmong n g = subst (IsAmong n) at (among k g inside) in
    let place : (i : ℕ) → (y == i) ≡ true → i < n → y < n = λ i same within. subst (λ k. k < n) (sym (eqb-true y i same)) within in
    elim (or_cases (x == g.from && y == g.to) (x == g.to && y == g.from) is) [
      | inl on ↦ place g.to (and_parts (x == g.from) (y == g.to) on).1 here.to
      | inr back ↦ place g.from (and_parts (x == g.to) (y == g.from) back).1 here.from
    ]

module _ (names : List Text) (good : are_names names ≡ true) where
  -- a grant carries by names as it does by places
  pub flows_seen : (x y : ℕ) (gs : List Placed) → All (IsAmong (length names)) gs → list_any (carries (text_in names x) (text_in names y)) (map (named names) gs) ≡ list_any (carries_at x y) gs
  flows_seen x y [] among = refl
  flows_seen x y (g ∷ gs) among =
      let here : IsAmong (length names) g = All-head (IsAmong (length names)) g gs among in
      rw (me_test names good x g.from here.from, me_test names good y g.to here.to, me_test names good x g.to here.to, me_test names good y g.from here.from, flows_seen x y gs (All-tail (IsAmong (length names)) g gs among)) refl

  -- what a grant carries from, and what it carries to, has a place
  pub carried_between : (s t : Text) (gs : List Placed) → All (IsAmong (length names)) gs → list_any (carries s t) (map (named names) gs) ≡ true
      → ((i : ℕ) × (i < length names) × (s ≡ text_in names i)) × ((i : ℕ) × (i < length names) × (t ≡ text_in names i))
  carried_between s t [] among e = absurd (false≢true e)
  carried_between s t (g ∷ gs) among e =
      let here : IsAmong (length names) g = All-head (IsAmong (length names)) g gs among in
      let from = text_in names g.from in
      let to = text_in names g.to in
      elim (or_cases (carries s t (named names g)) (list_any (carries s t) (map (named names) gs)) e) [
        | inl first ↦
            elim (or_cases (text_eq s from && text_eq t to) ((text_eq s to && text_eq t from) && access.allows g.mode access.Write) first) [
              | inl on ↦ let (one, two) = and_parts (text_eq s from) (text_eq t to) on in ((g.from, here.from, (bytes_decides s from).0 one), (g.to, here.to, (bytes_decides t to).0 two))
              | inr back ↦
                  let (one, two) = and_parts (text_eq s to) (text_eq t from) (and_parts (text_eq s to && text_eq t from) (access.allows g.mode access.Write) back).0 in
                  ((g.to, here.to, (bytes_decides s to).0 one), (g.from, here.from, (bytes_decides t from).0 two))
            ]
        | inr later ↦ carried_between s t gs (All-tail (IsAmong (length names)) g gs among) later
      ]

  -- no account has an empty name
  pub none_empty : (i : ℕ) → i < length names → [] ≡ text_in names i → ⊥
  none_empty i within e = false≢true (ap is_account_name e ∙ name_good names good i within)

  module _ (gs : List Placed) (among : All (IsAmong (length names)) gs) (settings : access.Settings) (has : settings.grants ≡ map (named names) gs) where
    -- nobody reaches an empty name but itself, nor does it reach anybody
    empty_start : {s t : Text} → Reaches settings s t → s ≡ [] → s ≡ t
    empty_start (itself x) e = refl
    empty_start (through {x = x} {y = y} flow rest) e =
        let (i, inside, at) = (carried_between x y gs among (ap (list_any (carries x y)) (sym has) ∙ flow)).0 in
        absurd (none_empty i inside (sym e ∙ at))

    empty_end : {s t : Text} → Reaches settings s t → t ≡ [] → s ≡ t
    empty_end (itself x) e = refl
    empty_end (through {x = x} {y = y} flow rest) e =
        let (i, inside, at) = (carried_between x y gs among (ap (list_any (carries x y)) (sym has) ∙ flow)).1 in
        absurd (none_empty i inside (sym (empty_end rest e ∙ e) ∙ at))

    pub empty_side : {s t : Text} → Reaches settings s t → (s ≡ []) ⊎ (t ≡ []) → s ≡ t
    empty_side flow (inl e) = empty_start flow e
    empty_side flow (inr e) = empty_end flow e

  module _ (gs : List Placed) (among : All (IsAmong (length names)) gs) (edges : List Edge) (is : (x y : ℕ) → list_any (leads x y) edges ≡ list_any (carries_at x y) gs) (settings : access.Settings) (has : settings.grants ≡ map (named names) gs) where
    step_seen : (x y : ℕ) → flows settings (text_in names x) (text_in names y) ≡ list_any (leads x y) edges
    step_seen x y = ap (list_any (carries (text_in names x) (text_in names y))) has ∙ flows_seen x y gs among ∙ sym (is x y)

    pub edges_within : All (λ e. e.target < length names) edges
    edges_within = targets_within (length names) edges (λ x y led. tied_within (length names) x y gs among (tied_on x y gs (sym (is x y) ∙ led)))

    pub reached_by : {x y : ℕ} → Leads edges x y → Reaches settings (text_in names x) (text_in names y)
    reached_by (stays x) = itself (text_in names x)
    reached_by (goes {x = x} {y = y} first rest) = through (step_seen x y ∙ first) (reached_by rest)

    same_name : (a b : ℕ) → a < length names → b < length names → text_in names a ≡ text_in names b → b ≡ a
    same_name a b low within e = (place_is names good a low).alone b ((place_is names good b within).here ∙ ap Some (sym e))

    pub led_by : {s t : Text} → Reaches settings s t → (a b : ℕ) → a < length names → b < length names → s ≡ text_in names a → t ≡ text_in names b → Leads edges a b
    led_by (itself x) a b low within e f = subst (Leads edges a) (sym (same_name a b low within (sym e ∙ f))) (stays a)
    led_by (through {x = x} {y = y} flow rest) a b low within e f =
        let (i, inside, at) = (carried_between x y gs among (ap (list_any (carries x y)) (sym has) ∙ flow)).1 in
        goes (sym (step_seen a i) ∙ (λ j. flows settings (sym e j) (sym at j)) ∙ flow) (led_by rest i b inside within at f)

-- chains in settings as they are seen, between the names at places
module _ (accounts : List Account) (terminals : List (Option ℕ)) (gs : List Placed) (now : access.Settings) (is : settings_view accounts terminals gs ≡ now) (a b : ℕ) where
  pub chain_at : Reaches (settings_view accounts terminals gs) (text_in (names_in accounts) a) (text_in (names_in accounts) b) → Reaches now (access.name_at now a) (access.name_at now b)
  chain_at chain =
      subst (λ s. Reaches s (access.name_at s a) (access.name_at s b)) is
      (subst₂ (Reaches (settings_view accounts terminals gs)) (name_seen accounts a) (name_seen accounts b) chain)

  pub chain_of : Reaches now (access.name_at now a) (access.name_at now b) → Reaches (settings_view accounts terminals gs) (text_in (names_in accounts) a) (text_in (names_in accounts) b)
  chain_of chain =
      subst₂ (Reaches (settings_view accounts terminals gs)) (sym (name_seen accounts a)) (sym (name_seen accounts b))
      (subst (λ s. Reaches s (access.name_at s a) (access.name_at s b)) (sym is) chain)
