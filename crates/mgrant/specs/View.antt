-- SPDX-License-Identifier: Apache-2.0
-- Accounts as they are written and as the code keeps them, and the settings that it keeps, as those of the definitions.
use Rattle.std.specs.Prelude.{◌≡◌, ℕ, ◌+◌, ◌<◌, true, List, [], ◌∷◌, length, map, slice_get, All, Option, Some, None, option_and_then, refl, Bool, false}
use Rattle.std.specs.Coded.{Coded, code_by, coded×, coded_list, coded_ℕ, coded_bool}
use Rattle.std.specs.FinMap.{FinMap, from_entries, code}
use Rattle.std.specs.Ordering.{nat_cmp}
use Rattle.mspec.specs.Node.{Text}
use Rattle.mspec.specs.Access.{Account, Grant, Settings, Mode, Read, Write}
use Rattle.mgrant.specs.Document.{WrittenAccount, are_names}
use Rattle.mgrant.specs.Words.{text_in}
use Rattle.mgrant.specs.Placed.{Placed}
use Rattle.mgrant.specs.declared.document.AccountEntry.{AccountEntry}

-- an entry of the list of accounts, as the code reads it
abbrev pub account_view : AccountEntry → WrittenAccount
account_view e = record { name = e.name.items; terminals = e.terminals.items; steps = e.steps; language = e.language.number }

abbrev pub names_in : List Account → List Text
names_in accounts = map (λ a. a.name) accounts

abbrev pub with_terminal : ℕ → Option Account → List (ℕ × Account) → List (ℕ × Account)
with_terminal t None rest = rest
with_terminal t (Some a) rest = (t, a) ∷ rest

-- the terminals from t on, each with the account whose place is there
abbrev pub terminals_from : List Account → ℕ → List (Option ℕ) → List (ℕ × Account)
terminals_from accounts t [] = []
terminals_from accounts t (o ∷ rest) = with_terminal t (option_and_then (slice_get accounts) o) (terminals_from accounts (t + 1) rest)

abbrev pub named : List Text → Placed → Grant
named names g = record { from = text_in names g.from; to = text_in names g.to; global = g.global; mode = g.mode }

abbrev pub settings_view : List Account → List (Option ℕ) → List Placed → Settings
settings_view accounts terminals grants = record {
  accounts = accounts;
  terminals = from_entries (terminals_from accounts 0 terminals);
  grants = map (named (names_in accounts)) grants;
}

-- both accounts of the grant are among `count` accounts
pub record IsAmong (count : ℕ) (g : Placed) : Type 0 where
  pub from : g.from < count
  pub to : g.to < count

-- names are good and apart, and what is said of places is said of accounts that are there
pub record AreSettings (accounts : List Account) (terminals : List (Option ℕ)) (grants : List Placed) : Type 0 where
  pub named : are_names (names_in accounts) ≡ true
  pub placed : (t i : ℕ) → slice_get terminals t ≡ Some (Some i) → i < length accounts
  pub granted : All (IsAmong (length accounts)) grants

-- codes, by which a proof tells values apart
abbrev pub coded_account : Coded Account
coded_account = code_by (Text × (ℕ × ℕ)) (coded× (coded_list coded_ℕ) (coded× coded_ℕ coded_ℕ)) (λ a. (a.name, (a.steps, a.language))) (λ p. record { name = p.0; steps = p.1.0; language = p.1.1 }) (λ _. refl)

abbrev is_write : Mode → Bool
is_write Read = false
is_write Write = true

abbrev mode_by : Bool → Mode
mode_by false = Read
mode_by true = Write

pub mode_back : (m : Mode) → mode_by (is_write m) ≡ m
mode_back Read = refl
mode_back Write = refl

abbrev pub coded_mode : Coded Mode
coded_mode = code_by Bool coded_bool is_write mode_by mode_back

abbrev pub coded_text : Coded Text
coded_text = coded_list coded_ℕ

abbrev pub coded_grant : Coded Grant
coded_grant =
    code_by (Text × (Text × (Text × Mode))) (coded× coded_text (coded× coded_text (coded× coded_text coded_mode)))
    (λ g. (g.from, (g.to, (g.global, g.mode)))) (λ p. record { from = p.0; to = p.1.0; global = p.1.1.0; mode = p.1.1.1 }) (λ _. refl)

abbrev pub settings_code : Coded Settings
settings_code =
    code_by (List Account × (FinMap nat_cmp Account × List Grant)) (coded× (coded_list coded_account) (coded× (code coded_ℕ coded_account) (coded_list coded_grant)))
    (λ s. (s.accounts, (s.terminals, s.grants))) (λ p. record { accounts = p.0; terminals = p.1.0; grants = p.1.1 }) (λ _. refl)
