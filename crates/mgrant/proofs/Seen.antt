-- SPDX-License-Identifier: Apache-2.0
-- The settings of the definitions, beside the parts that the code keeps.
use Rattle.mgrant.proofs.GrantWords.{◌≡◌, inl, inr, ℕ, zero, suc, ◌+◌, ◌==◌, ◌<◌, Bool, true, false, List, ◌∷◌, length, map, get_or, Option, Some, None, All}
use Rattle.mgrant.proofs.GrantWords.{refl, sym, subst, ap, ◌∙◌, arith, add-zero, zero-add, not, ◌&&◌, ◌||◌, nat_le, slice_get, option_map, option_and_then}
use Rattle.mgrant.proofs.GrantWords.{unwrap_or, [], list_any, list_all, get, from_entries, get-from_entries, find, nat_cmp_total, bytes_decides, cases_Bool}
use Rattle.mgrant.proofs.GrantWords.{cases_lt, and_parts, or_cases, leb-true, false≢true, ne_eqb, eq-eqb, not-true, false_from_ne_true, nat_tests, All-head}
use Rattle.mgrant.proofs.GrantWords.{All-tail, list_any_at, AllPass-from_list_all, none-some, same_Some, slice_get-get_or, slice_get_within, slice_get_past}
use Rattle.mgrant.proofs.GrantWords.{length-map, get_or_from_slice_get, unwrap_or-slice_get, Text, text_eq, is_letter, is_name_rest, account_name_is, Account}
use Rattle.mgrant.proofs.GrantWords.{are_names, are_distinct, is_account_name, Placed, lets_at, names_in, terminals_from, with_terminal, named, IsAmong}
use Rattle.mgrant.proofs.GrantWords.{settings_view, text_in, IsPlaceOf}
use Rattle.std.specs.List.{find as first_of}
use Rattle.std.specs.Ordering.{nat_cmp, eq_by_cmp}
use Rattle.mspec.specs.Literal.{is_digit}
use Rattle.mspec.specs.Access as access
use Rattle.mgrant.proofs.Allowances.{place_test}

-- ---- accounts

pub name_seen : (accounts : List Account) (i : ℕ) → text_in (names_in accounts) i ≡ unwrap_or (option_map (λ (a : Account). a.name) (slice_get accounts i)) []
name_seen [] i = refl
name_seen (a ∷ rest) zero = refl
name_seen (a ∷ rest) (suc i) = name_seen rest i

pub length_seen : (accounts : List Account) → length (names_in accounts) ≡ length accounts
length_seen accounts = length-map accounts (λ (a : Account). a.name)

pub named_seen : (accounts : List Account) (name : Text) (i : ℕ) → IsPlaceOf (names_in accounts) name i → slice_get accounts i ≡ first_of (λ (a : Account). text_eq name a.name) accounts
named_seen [] name i is = absurd (none-some name is.here)
named_seen (a ∷ rest) name zero is = rw ((bytes_decides name a.name).1 (sym (same_Some a.name name is.here))) refl
named_seen (a ∷ rest) name (suc i) is =
    let other : text_eq name a.name ≡ false = false_from_ne_true _ (λ here. let first = is.alone 0 (ap Some (sym ((bytes_decides name a.name).0 here))) in absurd (omega arith)) in
    rw other (named_seen rest name i (record { here = is.here; alone = λ j at. let next = is.alone (suc j) at in omega arith }))

pub unnamed_seen : (accounts : List Account) (name : Text) → list_any (text_eq name) (names_in accounts) ≡ false → first_of (λ (a : Account). text_eq name a.name) accounts ≡ None
unnamed_seen [] name none = refl
unnamed_seen (a ∷ rest) name none =
    elim (cases_Bool (text_eq name a.name)) [
      | inl same ↦ absurd (false≢true (sym none ∙ rw same refl))
      | inr other ↦ rw other (unnamed_seen rest name (rw other at none))
    ]

pub among_seen : (accounts : List Account) (gs : List Placed) → All (IsAmong (length accounts)) gs → All (IsAmong (length (names_in accounts))) gs
among_seen accounts gs among = subst (λ n. All (IsAmong n) gs) (sym (length_seen accounts)) among

-- ---- terminals

pub tied_is : (t k : ℕ) → eq_by_cmp nat_cmp t k ≡ (t == k)
tied_is t k = grind (arith, nat_tests)

past_one : (t k : ℕ) (a : Account) (rest : List (ℕ × Account)) → (t ≡ k → ⊥) → find nat_cmp t ((k, a) ∷ rest) ≡ find nat_cmp t rest
past_one t k a rest other = rw (tied_is t k, ne_eqb t k other) refl

past_here : (t k : ℕ) (o : Option Account) (rest : List (ℕ × Account)) → (t ≡ k → ⊥) → find nat_cmp t (with_terminal k o rest) ≡ find nat_cmp t rest
past_here t k None rest other = refl
past_here t k (Some a) rest other = past_one t k a rest other

find_before : (accounts : List Account) (v : List (Option ℕ)) (k t : ℕ) → t < k → find nat_cmp t (terminals_from accounts k v) ≡ None
find_before accounts [] k t low = refl
find_before accounts (o ∷ v) k t low = past_here t k (option_and_then (slice_get accounts) o) (terminals_from accounts (k + 1) v) (λ e. absurd (omega arith)) ∙ find_before accounts v (k + 1) t (omega arith)

at_here : (k : ℕ) (o : Option Account) (rest : List (ℕ × Account)) → find nat_cmp k rest ≡ None → find nat_cmp k (with_terminal k o rest) ≡ o
at_here k None rest none = none
at_here k (Some a) rest none = rw (tied_is k k, eq-eqb k k refl) refl

find_from : (accounts : List Account) (v : List (Option ℕ)) (k t : ℕ) → find nat_cmp (k + t) (terminals_from accounts k v) ≡ option_and_then (slice_get accounts) (get_or v t None)
find_from accounts [] k t = refl
find_from accounts (o ∷ v) k zero = rw (add-zero k) (at_here k (option_and_then (slice_get accounts) o) (terminals_from accounts (k + 1) v) (find_before accounts v (k + 1) k (omega arith)))
find_from accounts (o ∷ v) k (suc t) =
    past_here (k + suc t) k (option_and_then (slice_get accounts) o) (terminals_from accounts (k + 1) v) (λ e. absurd (omega arith))
    ∙ ap (λ n. find nat_cmp n (terminals_from accounts (k + 1) v)) (omega arith) ∙ find_from accounts v (k + 1) t

-- the account of a terminal is that of the place that stands there
pub terminal_seen : (accounts : List Account) (v : List (Option ℕ)) (t : ℕ) → get (from_entries {R = nat_cmp} (terminals_from accounts 0 v)) t ≡ option_and_then (slice_get accounts) (get_or v t None)
terminal_seen accounts v t = get-from_entries nat_cmp_total (terminals_from accounts 0 v) t ∙ ap (λ n. find nat_cmp n (terminals_from accounts 0 v)) (sym (zero-add t)) ∙ find_from accounts v 0 t

-- ---- names are apart, and none is empty

absent_then : (t u : Text) (ts : List Text) (i : ℕ) → list_any (text_eq t) ts ≡ false → slice_get ts i ≡ Some t → ⊥
absent_then t u ts i none at = false≢true (sym none ∙ list_any_at (text_eq t) ts i t (slice_get_within ts i t at) ((bytes_decides t _).1 (sym (get_or_from_slice_get ts i t t at))))

apart : (ts : List Text) → are_distinct text_eq ts ≡ true → (t : Text) (i j : ℕ) → slice_get ts i ≡ Some t → slice_get ts j ≡ Some t → i ≡ j
apart [] e t i j at there = absurd (none-some t at)
apart (x ∷ ts) e t zero zero at there = refl
apart (x ∷ ts) e t zero (suc j) at there =
    let (new, rest) = and_parts (not (list_any (text_eq x) ts)) (are_distinct text_eq ts) e in
    absurd (absent_then x t ts j (not-true (list_any (text_eq x) ts) new) (there ∙ sym at))
apart (x ∷ ts) e t (suc i) zero at there =
    let (new, rest) = and_parts (not (list_any (text_eq x) ts)) (are_distinct text_eq ts) e in
    absurd (absent_then x t ts i (not-true (list_any (text_eq x) ts) new) (at ∙ sym there))
apart (x ∷ ts) e t (suc i) (suc j) at there =
    let (new, rest) = and_parts (not (list_any (text_eq x) ts)) (are_distinct text_eq ts) e in
    ap suc (apart ts rest t i j at there)

-- a place is that of its name
pub place_is : (names : List Text) → are_names names ≡ true → (i : ℕ) → i < length names → IsPlaceOf names (text_in names i) i
place_is names good i within =
    let (each, distinct) = and_parts (list_all is_account_name names) (are_distinct text_eq names) good in
    let here : slice_get names i ≡ Some (text_in names i) = slice_get-get_or names i [] within ∙ ap Some (sym (unwrap_or-slice_get names i [])) in
    record { here = here; alone = λ j at. apart names distinct (text_in names i) j i at here }

pub name_good : (names : List Text) → are_names names ≡ true → (i : ℕ) → i < length names → is_account_name (text_in names i) ≡ true
name_good names good i within =
    let (each, distinct) = and_parts (list_all is_account_name names) (are_distinct text_eq names) good in
    ap is_account_name (unwrap_or-slice_get names i []) ∙ AllPass-from_list_all is_account_name names each i [] within

-- a name that has a character is that of a place
pub within_of_named : (names : List Text) (i : ℕ) → 0 < length (text_in names i) → i < length names
within_of_named [] i some = absurd (omega (arith, some))
within_of_named (n ∷ ns) zero some = omega arith
within_of_named (n ∷ ns) (suc i) some = let rest = within_of_named ns i some in omega (arith, rest)

small : (c : ℕ) → is_name_rest c ≡ true → c < 128
small c e =
    elim (or_cases (is_letter c) (is_digit c) e) [
      | inl letter ↦
          elim (or_cases (nat_le 65 c && nat_le c 90) (nat_le 97 c && nat_le c 122) letter) [
            | inl upper ↦ let k = leb-true c 90 (and_parts (nat_le 65 c) (nat_le c 90) upper).1 in omega (arith, k)
            | inr lower ↦ let k = leb-true c 122 (and_parts (nat_le 97 c) (nat_le c 122) lower).1 in omega (arith, k)
          ]
      | inr digit ↦ let k = leb-true c 57 (and_parts (nat_le 48 c) (nat_le c 57) digit).1 in omega (arith, k)
    ]

-- a name has only letters and digits, and if there is none it is empty
pub name_small : (names : List Text) → are_names names ≡ true → (i : ℕ) → All (λ c. c < 128) (text_in names i)
name_small names good i =
    elim (cases_lt i (length names)) [
      | inl inside ↦ λ k d within. small _ ((account_name_is (text_in names i) (name_good names good i inside)).each k d within)
      | inr outside ↦ subst (All (λ c. c < 128)) (sym (ap (λ o. unwrap_or o []) (slice_get_past names i outside))) (λ k d within. absurd (omega (arith, within)))
    ]

-- an account's name is that of a place exactly if the place is its own, even for a place that has no name
pub me_test : (names : List Text) → are_names names ≡ true → (me i : ℕ) → i < length names → text_eq (text_in names me) (text_in names i) ≡ (me == i)
me_test names good me i within =
    elim (cases_lt me (length names)) [
      | inl inside ↦ place_test names (text_in names me) me i (place_is names good me inside) within
      | inr outside ↦
          let empty : text_in names me ≡ [] = ap (λ o. unwrap_or o []) (slice_get_past names me outside) in
          let other : text_eq (text_in names me) (text_in names i) ≡ false =
          false_from_ne_true _ (λ same. false≢true (ap is_account_name (sym empty ∙ (bytes_decides (text_in names me) (text_in names i)).0 same) ∙ name_good names good i within)) in
          other ∙ sym (ne_eqb me i (λ e. absurd (omega arith)))
    ]

-- ---- access

-- a grant by names is a grant by places
pub lets_seen : (names : List Text) → are_names names ≡ true → (me owner : ℕ) (owner_name : Text) → IsPlaceOf names owner_name owner → (name : Text) (asked : access.Mode) (gs : List Placed) → All (IsAmong (length names)) gs
    → list_any (access.lets (text_in names me) owner_name name asked) (map (named names) gs) ≡ list_any (lets_at me owner name asked) gs
lets_seen names good me owner owner_name is name asked [] among = refl
lets_seen names good me owner owner_name is name asked (g ∷ gs) among =
    let here : IsAmong (length names) g = All-head (IsAmong (length names)) g gs among in
    rw (place_test names owner_name owner g.from is here.from, me_test names good me g.to here.to, lets_seen names good me owner owner_name is name asked gs (All-tail (IsAmong (length names)) g gs among)) refl

unowned : (a b c : Bool) → a ≡ false → ((a && b) && c) ≡ false
unowned a b c e = rw e refl

-- nothing is granted by a name that is no account's
pub lets_unknown : (names : List Text) (me owner_name name : Text) (asked : access.Mode) → list_any (text_eq owner_name) names ≡ false → (gs : List Placed) → All (IsAmong (length names)) gs
    → list_any (access.lets me owner_name name asked) (map (named names) gs) ≡ false
lets_unknown names me owner_name name asked none [] among = refl
lets_unknown names me owner_name name asked none (g ∷ gs) among =
    let here : IsAmong (length names) g = All-head (IsAmong (length names)) g gs among in
    let other : text_eq owner_name (text_in names g.from) ≡ false =
    false_from_ne_true _ (λ same. false≢true (sym none ∙ list_any_at (text_eq owner_name) names g.from [] here.from (ap (text_eq owner_name) (sym (unwrap_or-slice_get names g.from [])) ∙ same))) in
    rw (unowned (text_eq owner_name (text_in names g.from)) (text_eq me (text_in names g.to)) (text_eq name g.global && access.allows g.mode asked) other) (lets_unknown names me owner_name name asked none gs (All-tail (IsAmong (length names)) g gs among))

pub there : (v : List (Option ℕ)) (t i : ℕ) → get_or v t None ≡ Some i → slice_get v t ≡ Some (Some i)
there [] t i e = absurd (none-some i e)
there (o ∷ v) zero i e = ap Some e
there (o ∷ v) (suc t) i e = there v t i e

pub either : (a b r : Bool) → a ≡ false → b ≡ r → (a || b) ≡ r
either a b r e f = rw e f

-- what settings as they are seen let the account at a place do
pub may_seen : (accounts : List Account) (terminals : List (Option ℕ)) (gs : List Placed) → (now : access.Settings) → settings_view accounts terminals gs ≡ now → (me : ℕ) (owner name : Text) (asked : access.Mode)
    → access.may (settings_view accounts terminals gs) (text_in (names_in accounts) me) owner name asked ≡ access.may now (access.name_at now me) owner name asked
may_seen accounts terminals gs now is me owner name asked =
    ap (λ x. access.may (settings_view accounts terminals gs) x owner name asked) (name_seen accounts me) ∙ ap (λ s. access.may s (access.name_at s me) owner name asked) is
