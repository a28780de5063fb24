-- SPDX-License-Identifier: Apache-2.0
-- The island of an account: the names at the places that chains of ties lead to.
use Rattle.mgrant.proofs.GrantWords.{◌≡◌, ◌↔◌, ◌⊎◌, inl, inr, ℕ, zero, suc, ◌+◌, ◌==◌, ◌<◌, ◌≤◌, Bool, true, false, List, ◌∷◌, ◌++◌, length, map, get_or}
use Rattle.mgrant.proofs.GrantWords.{Option, Some, All, refl, sym, ap, subst, subst₂, ◌∙◌, arith, ◌&&◌, ◌||◌, unwrap_or, [], Any-from_list_any, list_any_at}
use Rattle.mgrant.proofs.GrantWords.{both_ways, list_any, filter, range_with_len, bytes_decides, cases_lt, and_parts, and_from, or_cases, or_left, or_right}
use Rattle.mgrant.proofs.GrantWords.{false≢true, false_from_ne_true, get_or_past, filter_agree, filter-append, slice_get_past, Text, text_eq, carries, flows}
use Rattle.mgrant.proofs.GrantWords.{are_names, leads, Leads, stays, IsIslandOf, IsIslandAt, Placed, carries_at, ties_at, settings_view, named, names_in}
use Rattle.mgrant.proofs.GrantWords.{IsAmong, AreSettings, text_in, Account, Edge, append-nil}
use Rattle.mspec.specs.Access as access
use Rattle.mgrant.proofs.Chains.{flows_seen, none_empty, carried_between, any_more, targets_within, tied_on, tied_within}
use Rattle.mgrant.proofs.Marks.{leads_on, closed_under}
use Rattle.mgrant.proofs.Seen.{place_is, name_seen, length_seen, among_seen}

-- ---- flows and ties, by places

tie_back : (a b c d w : Bool) → ((a && b) || ((c && d) && w)) ≡ true → ((d && c) || (b && a)) ≡ true
tie_back a b c d w e =
    elim (or_cases (a && b) ((c && d) && w) e) [
      | inl on ↦ let (first, second) = and_parts a b on in or_right (d && c) _ (and_from b a second first)
      | inr back ↦ let (first, second) = and_parts c d (and_parts (c && d) w back).0 in or_left (d && c) _ (and_from d c second first)
    ]

tie_carries : (a b c d w : Bool) → ((a && b) || (c && d)) ≡ true → (((a && b) || ((c && d) && w)) ≡ true) ⊎ (((d && c) || ((b && a) && w)) ≡ true)
tie_carries a b c d w e =
    elim (or_cases (a && b) (c && d) e) [
      | inl on ↦ inl (or_left (a && b) _ on)
      | inr back ↦ let (first, second) = and_parts c d back in inr (or_left (d && c) _ (and_from d c second first))
    ]

-- what flows is tied back too
tied_back : (x y : ℕ) (gs : List Placed) → list_any (carries_at x y) gs ≡ true → list_any (ties_at y x) gs ≡ true
tied_back x y = any_more (carries_at x y) (ties_at y x) (λ g. tie_back (x == g.from) (y == g.to) (x == g.to) (y == g.from) (access.allows g.mode access.Write))

-- and what is tied flows in one of them
tied_flows : (x y : ℕ) (gs : List Placed) → list_any (ties_at x y) gs ≡ true → (list_any (carries_at x y) gs ≡ true) ⊎ (list_any (carries_at y x) gs ≡ true)
tied_flows x y gs e =
    let (k, g, within, at, is) = Any-from_list_any (ties_at x y) gs e in
    elim (tie_carries (x == g.from) (y == g.to) (x == g.to) (y == g.from) (access.allows g.mode access.Write) is) [
      | inl on ↦ inl (list_any_at (carries_at x y) gs k g within (ap (carries_at x y) at ∙ on))
      | inr back ↦ inr (list_any_at (carries_at y x) gs k g within (ap (carries_at y x) at ∙ back))
    ]

pub ties_within : (names : List Text) (gs : List Placed) → All (IsAmong (length names)) gs → (edges : List Edge) → ((x y : ℕ) → list_any (leads x y) edges ≡ list_any (ties_at x y) gs) → All (λ e. e.target < length names) edges
ties_within names gs among edges is = targets_within (length names) edges (λ x y led. tied_within (length names) x y gs among (sym (is x y) ∙ led))

-- ---- names at marked places

abbrev pub marked_name : List Text → List Bool → Text → Bool
marked_name [] ms x = false
marked_name (n ∷ ns) [] x = false
marked_name (n ∷ ns) (m ∷ ms) x = (m && text_eq x n) || marked_name ns ms x

place_of_marked : (names : List Text) (marks : List Bool) (x : Text) → marked_name names marks x ≡ true → (p : ℕ) × (p < length names) × (x ≡ text_in names p) × (get_or marks p false ≡ true)
place_of_marked [] ms x e = absurd (false≢true e)
place_of_marked (n ∷ ns) [] x e = absurd (false≢true e)
place_of_marked (n ∷ ns) (m ∷ ms) x e =
    elim (or_cases (m && text_eq x n) (marked_name ns ms x) e) [
      | inl here ↦ let (on, same) = and_parts m (text_eq x n) here in (0, omega arith, (bytes_decides x n).0 same, on)
      | inr later ↦ let (p, within, at, on) = place_of_marked ns ms x later in (suc p, omega arith, at, on)
    ]

name_marked : (names : List Text) (marks : List Bool) (p : ℕ) → p < length names → get_or marks p false ≡ true → marked_name names marks (text_in names p) ≡ true
name_marked [] ms p within e = absurd (omega arith)
name_marked (n ∷ ns) [] p within e = absurd (false≢true e)
name_marked (n ∷ ns) (m ∷ ms) zero within e = or_left _ _ (and_from m _ e ((bytes_decides n n).1 refl))
name_marked (n ∷ ns) (m ∷ ms) (suc p) within e = or_right (m && text_eq (text_in ns p) n) _ (name_marked ns ms p (omega arith) e)

no_name : (names : List Text) (p : ℕ) → length names ≤ p → text_in names p ≡ []
no_name names p past = ap (λ o. unwrap_or o []) (slice_get_past names p past)

module _ (names : List Text) (good : are_names names ≡ true) where
  -- a name is a member exactly if its place is marked
  mark_of : (marks : List Bool) (p : ℕ) → p < length names → marked_name names marks (text_in names p) ≡ true → get_or marks p false ≡ true
  mark_of marks p within e =
      let (q, inside, at, on) = place_of_marked names marks (text_in names p) e in
      let same : p ≡ q = (place_is names good q inside).alone p ((place_is names good p within).here ∙ ap Some at) in
      subst (λ k. get_or marks k false ≡ true) (sym same) on

  mark_is : (marks : List Bool) → length marks ≡ length names → (p : ℕ) → get_or marks p false ≡ marked_name names marks (text_in names p)
  mark_is marks size p =
      elim (cases_lt p (length names)) [
        | inl within ↦ both_ways (get_or marks p false) (marked_name names marks (text_in names p)) (name_marked names marks p within) (mark_of marks p within)
        | inr past ↦
            both_ways (get_or marks p false) (marked_name names marks (text_in names p))
            (λ on. absurd (false≢true (sym (get_or_past marks p false (omega arith)) ∙ on)))
            (λ e.
            let (q, inside, at, on) = place_of_marked names marks (text_in names p) e in
            absurd (none_empty names good q inside (sym (no_name names p past) ∙ at)))
      ]

  -- no account has an empty name
  empty_apart : (x : Text) (i : ℕ) → i < length names → x ≡ text_in names i → text_eq [] x ≡ false
  empty_apart x i within at = false_from_ne_true _ (λ same. none_empty names good i within ((bytes_decides [] x).0 same ∙ at))

  module _ (gs : List Placed) (among : All (IsAmong (length names)) gs) (settings : access.Settings) (has : settings.grants ≡ map (named names) gs) where
    -- what flows by names flows by places
    flow_at : (x y : Text) → flows settings x y ≡ true → (i : ℕ) × (j : ℕ) × (i < length names) × (j < length names) × (x ≡ text_in names i) × (y ≡ text_in names j) × (list_any (carries_at i j) gs ≡ true)
    flow_at x y flow =
        let carried : list_any (carries x y) (map (named names) gs) ≡ true = ap (list_any (carries x y)) (sym has) ∙ flow in
        let ((i, low, from), (j, high, to)) = carried_between names good x y gs among carried in
        (i, j, low, high, from, to, sym (flows_seen names good i j gs among) ∙ subst₂ (λ v w. list_any (carries v w) (map (named names) gs) ≡ true) from to carried)

    flow_of : (i j : ℕ) → list_any (carries_at i j) gs ≡ true → flows settings (text_in names i) (text_in names j) ≡ true
    flow_of i j e = ap (list_any (carries (text_in names i) (text_in names j))) has ∙ flows_seen names good i j gs among ∙ e

    module _ (edges : List Edge) (is : (x y : ℕ) → list_any (leads x y) edges ≡ list_any (ties_at x y) gs) (marks : List Bool) (start : ℕ) (low : start < length names) (told : (y : ℕ) → (get_or marks y false ≡ true) ↔ Leads edges start y) where
      -- what is tied to a member is one
      joins : (i j : ℕ) → i < length names → j < length names → list_any (ties_at i j) gs ≡ true → marked_name names marks (text_in names i) ≡ true → marked_name names marks (text_in names j) ≡ true
      joins i j within within' tie e =
          let led : Leads edges start i = (told i).0 (mark_of marks i within e) in
          name_marked names marks j within' ((told j).1 (leads_on edges led (is i j ∙ tie)))

      pub island_found : IsIslandOf settings (text_in names start) (marked_name names marks)
      island_found = record {
        has = name_marked names marks start low ((told start).1 (stays start));
        island = λ x y flow.
            let (i, j, within, within', from, to, carried) = flow_at x y flow in
            subst₂ (λ v w. marked_name names marks v ≡ marked_name names marks w) (sym from) (sym to)
            (both_ways _ _ (joins i j within within' (tied_on i j gs carried)) (joins j i within' within (tied_back i j gs carried)));
        least = λ other island own x e.
            let (p, within, at, on) = place_of_marked names marks x e in
            subst (λ t. other t ≡ true) (sym at)
            (closed_under edges (λ q. other (text_in names q) ≡ true) (λ q r here step.
            elim (tied_flows q r gs (sym (is q r) ∙ step)) [
              | inl f ↦ sym (island (text_in names q) (text_in names r) (flow_of q r f)) ∙ here
              | inr f ↦ island (text_in names r) (text_in names q) (flow_of r q f) ∙ here
            ]) ((told p).0 on) own);
      }

    -- ---- no account's place

    pub island_of_none : IsIslandOf settings [] (text_eq [])
    island_of_none = record {
      has = (bytes_decides [] []).1 refl;
      island = λ x y flow.
          let (i, j, within, within', from, to, carried) = flow_at x y flow in
          empty_apart x i within from ∙ sym (empty_apart y j within' to);
      least = λ other island own x e. subst (λ t. other t ≡ true) ((bytes_decides [] x).0 e) own;
    }

-- ---- in the settings

range_more : (a n j : ℕ) → a + n ≡ j → range_with_len a (suc n) ≡ range_with_len a n ++ j ∷ []
range_more a zero j e = ap (λ k. k ∷ []) (omega (arith, e))
range_more a (suc n) j e = ap (λ ks. a ∷ ks) (range_more (a + 1) n j (omega (arith, e)))

kept_more : (marks : List Bool) (k : ℕ) → filter (λ p. get_or marks p false) (range_with_len 0 (k + 1)) ≡ filter (λ p. get_or marks p false) (range_with_len 0 k) ++ filter (λ p. get_or marks p false) (k ∷ [])
kept_more marks k =
    let on : k + 1 ≡ suc k = omega arith in
    ap (λ n. filter (λ p. get_or marks p false) (range_with_len 0 n)) on
    ∙ ap (filter (λ p. get_or marks p false)) (range_more 0 k k (omega arith))
    ∙ filter-append (λ p. get_or marks p false) (range_with_len 0 k) (k ∷ [])

-- one more place, which is marked or not
pub marked_more : (marks : List Bool) (k : ℕ) → get_or marks k false ≡ true → filter (λ p. get_or marks p false) (range_with_len 0 (k + 1)) ≡ filter (λ p. get_or marks p false) (range_with_len 0 k) ++ k ∷ []
marked_more marks k on = kept_more marks k ∙ ap (λ xs. filter (λ p. get_or marks p false) (range_with_len 0 k) ++ xs) (simp on refl)

pub unmarked_more : (marks : List Bool) (k : ℕ) → get_or marks k false ≡ false → filter (λ p. get_or marks p false) (range_with_len 0 (k + 1)) ≡ filter (λ p. get_or marks p false) (range_with_len 0 k)
unmarked_more marks k off = kept_more marks k ∙ ap (λ xs. filter (λ p. get_or marks p false) (range_with_len 0 k) ++ xs) (simp off refl) ∙ append-nil (filter (λ p. get_or marks p false) (range_with_len 0 k))

none_kept : (p : ℕ → Bool) (a n : ℕ) → ((k : ℕ) → k < a + n → p k ≡ false) → filter p (range_with_len a n) ≡ []
none_kept p a zero none = refl
none_kept p a (suc n) none = rw (none a (omega arith)) (none_kept p (a + 1) n (λ k within. none k (omega arith)))

module _ (accounts : List Account) (terminals : List (Option ℕ)) (gs : List Placed) (inside : AreSettings accounts terminals gs) where
  abbrev seen : access.Settings
  seen = settings_view accounts terminals gs

  abbrev names : List Text
  names = names_in accounts

  -- the places of a set's accounts are those whose names it has
  places_seen : (s : Text → Bool) → filter (λ p. s (text_in names p)) (range_with_len 0 (length accounts)) ≡ filter (λ p. s (access.name_at seen p)) (range_with_len 0 (length accounts))
  places_seen s = filter_agree (λ p. s (text_in names p)) (λ p. s (access.name_at seen p)) (λ p. ap s (name_seen accounts p)) (range_with_len 0 (length accounts))

  island_at : (s : Text → Bool) (start : ℕ) (places : List ℕ) → IsIslandOf seen (text_in names start) s → places ≡ filter (λ p. s (text_in names p)) (range_with_len 0 (length accounts)) → IsIslandAt seen (access.name_at seen start) places
  island_at s start places is listed = record {
    members = s;
    least = subst (λ a. IsIslandOf seen a s) (name_seen accounts start) is;
    listed = listed ∙ places_seen s;
  }

  -- as many names as accounts, and grants among them
  counted : length names ≡ length accounts
  counted = length_seen accounts

  among : All (IsAmong (length names)) gs
  among = among_seen accounts gs inside.granted

  pub found_at : (edges : List Edge) → ((x y : ℕ) → list_any (leads x y) edges ≡ list_any (ties_at x y) gs) → (marks : List Bool) (start : ℕ) → start < length accounts
      → ((y : ℕ) → (get_or marks y false ≡ true) ↔ Leads edges start y) → length marks ≡ length accounts → (places : List ℕ) → places ≡ filter (λ p. get_or marks p false) (range_with_len 0 (length marks))
      → IsIslandAt seen (access.name_at seen start) places
  found_at edges is marks start low told size places listed =
      island_at (marked_name names marks) start places (island_found names inside.named gs among seen refl edges is marks start (omega (arith, counted)) told)
      (listed ∙ filter_agree (λ p. get_or marks p false) (λ p. marked_name names marks (text_in names p)) (mark_is names inside.named marks (size ∙ sym counted)) (range_with_len 0 (length marks))
      ∙ ap (λ n. filter (λ p. marked_name names marks (text_in names p)) (range_with_len 0 n)) size)

  pub none_at : (start : ℕ) → length accounts ≤ start → IsIslandAt seen (access.name_at seen start) []
  none_at start past =
      island_at (text_eq []) start [] (subst (λ a. IsIslandOf seen a (text_eq [])) (sym (no_name names start (omega (arith, counted)))) (island_of_none names inside.named gs among seen refl))
      (sym (none_kept (λ p. text_eq [] (text_in names p)) 0 (length accounts) (λ k within. empty_apart names inside.named (text_in names k) k (omega (arith, counted)) refl)))
