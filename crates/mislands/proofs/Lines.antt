-- SPDX-License-Identifier: Apache-2.0
-- An account by its name, and tests of what a list is mapped to.
use Rattle.mislands.proofs.IslandWords.{◌≡◌, inl, inr, ℕ, ◌+◌, ◌-◌, ◌<◌, Bool, true, false, List, ◌∷◌, length, map, get_or, take, Option, Some, None, refl, sym}
use Rattle.mislands.proofs.IslandWords.{ap, ◌∙◌, arith, option_map, unwrap_or, [], list_any, find, flat_map, bytes_decides, cases_Bool, false≢true, map_more}
use Rattle.mislands.proofs.IslandWords.{length-map, get_or-map, list_any_at, list_any-append, none-some, same_Some, Text, text_eq, Settings, Account}
use Rattle.mislands.proofs.IslandWords.{account_at, account_named, name_at, names_of}

abbrev pub behind_spaces : List Text → Text
behind_spaces names = flat_map (λ b. 32 ∷ b) names

-- ---- an account by its name

passes : (name : Text) (accounts : List Account) (a : Account) → find (λ b. text_eq name b.name) accounts ≡ Some a → a.name ≡ name
passes name [] a e = absurd (none-some a e)
passes name (b ∷ rest) a e =
    elim (cases_Bool (text_eq name b.name)) [
      | inl same ↦ ap (λ x. x.name) (sym (same_Some b a (rw same at e))) ∙ sym ((bytes_decides name b.name).0 same)
      | inr other ↦ passes name rest a (rw other at e)
    ]

is_found : (name : Text) (accounts : List Account) → list_any (text_eq name) (map (λ a. a.name) accounts) ≡ true → find (λ b. text_eq name b.name) accounts ≡ None → ⊥
is_found name [] any e = false≢true any
is_found name (b ∷ rest) any e =
    elim (cases_Bool (text_eq name b.name)) [
      | inl same ↦ none-some b (sym (rw same at e))
      | inr other ↦ is_found name rest (rw other at any) (rw other at e)
    ]

pub known_name : (settings : Settings) (name : Text) → list_any (text_eq name) (names_of settings) ≡ true → None ≡ account_named settings name → ⊥
known_name settings name any e = is_found name settings.accounts any (sym e)

name_of_found : (settings : Settings) (name : Text) (o : Option Account) → list_any (text_eq name) (names_of settings) ≡ true → o ≡ account_named settings name → unwrap_or (option_map (λ a. a.name) o) [] ≡ name
name_of_found settings name None any e = absurd (known_name settings name any e)
name_of_found settings name (Some a) any e = passes name settings.accounts a (sym e)

pub name_is : (settings : Settings) (name : Text) (id : ℕ) → list_any (text_eq name) (names_of settings) ≡ true → account_at settings id ≡ account_named settings name → name_at settings id ≡ name
name_is settings name id any e = name_of_found settings name (account_at settings id) any e

-- ---- a test of what a list is mapped to

pub any_here : {X Y : Type 0} (p : Y → Bool) (f : X → Y) (xs : List X) (i : ℕ) (d : X) → i < length xs → p (f (get_or xs i d)) ≡ true → list_any p (map f xs) ≡ true
any_here p f xs i d within e = list_any_at p (map f xs) i (f d) (omega (arith, length-map xs f)) (ap p (get_or-map f xs i d (f d) within) ∙ e)

pub none_more : {X Y : Type 0} (p : Y → Bool) (f : X → Y) (xs : List X) (i : ℕ) (d : X) → i < length xs → list_any p (map f (take i xs)) ≡ false → p (f (get_or xs i d)) ≡ false
    → list_any p (map f (take (i + 1) xs)) ≡ false
none_more p f xs i d within before e =
    ap (list_any p) (map_more f xs i d within) ∙ list_any-append p (map f (take i xs)) (f (get_or xs i d) ∷ []) ∙ (rw (before, e) refl)
