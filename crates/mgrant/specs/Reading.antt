-- SPDX-License-Identifier: Apache-2.0
-- The entries of a document, as the code keeps them, seen as what was written; and what a reading of settings returns.
use Rattle.std.specs.Prelude.{◌≡◌, ◌⊎◌, ℕ, ◌+◌, ◌≤◌, ℤ, pos, List, [], ◌∷◌, ◌++◌, map, length, slice_get, slice_index_or, All, Bool, true, false, if◌then◌else◌}
use Rattle.std.specs.Prelude.{Option, Some, None, Result, MatchResult}
use Rattle.std.specs.Ordering.{int_eq}
use denote.Ref.{Bor}
use Rattle.toml.specs.Data.{Members}
use Rattle.mspec.specs.Node.{Text}
use Rattle.mspec.specs.Access.{Account, Settings}
use Rattle.mgrant.specs.Document.{account_of, is_within, has_steps, are_terminals, is_grant, mode_named, grant_of, Reads, WrittenAccount, WrittenGrant, Written}
use Rattle.mgrant.specs.Document.{written, settings_of, first_fault}
use Rattle.mgrant.specs.Placed.{Placed, mode_of}
use Rattle.mgrant.specs.View.{account_view, named, IsAmong}
use Rattle.mgrant.specs.declared.checks.Placing.{Placing}
use Rattle.mgrant.specs.declared.document.AccountEntry.{AccountEntry}
use Rattle.mgrant.specs.declared.document.GrantEntry.{GrantEntry}
use Rattle.mgrant.specs.declared.document.Entries.{Entries}
use Rattle.mgrant.specs.declared.fault.SettingsFault.{SettingsFault}
use Rattle.mgrant.specs.declared.fault.SettingsFault.TheVariants.{Toml, Memory}

abbrev pub keys_view : List (Bor Text) → List Text
keys_view keys = map (λ k. k.now) keys

abbrev pub grant_view : GrantEntry → WrittenGrant
grant_view e = record { from = e.from.items; to = e.to.items; global = e.global.items; mode = e.mode.items }

abbrev pub entries_seen : List AccountEntry → List WrittenAccount
entries_seen es = map account_view es

abbrev pub grants_seen : List GrantEntry → List WrittenGrant
grants_seen es = map grant_view es

abbrev pub entries_view : Entries → Written
entries_view e = record { accounts = entries_seen e.accounts.items; grants = grants_seen e.grants.items }

-- a part of the reading finds what it looks for good, and gives it; or it is not good, and the fault is this; or there is no memory
abbrev pub Judges : {X : Type 0} → Bool → SettingsFault → (X → Type 0) → Result X SettingsFault → Type 0
Judges good fault P result = MatchResult result (λ x. (good ≡ true) × P x) (λ e. (e ≡ Memory) ⊎ ((e ≡ fault) × (good ≡ false)))

-- the bytes are a document without a fault, and these are its settings
abbrev pub IsRead : List ℕ → Settings → Type 0
IsRead bytes settings = (doc : Members) × Reads bytes doc × (w : Written) × (written doc ≡ Some w) × (first_fault doc ≡ None) × (settings ≡ settings_of w)

-- the bytes are no document; or a document of which this is the first fault
abbrev pub IsRefused : List ℕ → SettingsFault → Type 0
IsRefused bytes e = ((e ≡ Toml) × ((doc : Members) → ¬ Reads bytes doc)) ⊎ ((doc : Members) × Reads bytes doc × (first_fault doc ≡ Some e))

-- ---- parts of the settings

-- the whole number is this one, from 1 up to a bound
pub record IsNumberWithin (most : ℕ) (z : ℤ) (n : ℕ) : Type 0 where
  pub is : z ≡ pos n
  pub good : is_within 1 most z ≡ true
  pub few : n ≤ most

-- the account is that of the entry, whose numbers are good
pub record IsAccountOf (entry : WrittenAccount) (account : Account) : Type 0 where
  pub good : has_steps entry ≡ true
  pub is : account ≡ account_of entry

-- a terminal, and the place of the account that it is given to
abbrev pub Claim : Type 0
Claim = ℤ × ℕ

-- what one account claims, after earlier claims; and what accounts claim, from a place on
abbrev pub claims_at : ℕ → List ℤ → List Claim → List Claim
claims_at place ts seen = seen ++ map (λ t. (t, place)) ts

abbrev pub claims : ℕ → List WrittenAccount → List Claim
claims place [] = []
claims place (a ∷ rest) = map (λ t. (t, place)) a.terminals ++ claims (place + 1) rest

abbrev pub numbers : List Claim → List ℤ
numbers cs = map (λ c. c.0) cs

-- the place that a terminal is given to
abbrev pub claimed : ℤ → List Claim → Option ℕ
claimed t [] = None
claimed t (c ∷ cs) = if int_eq t c.0 then Some c.1 else claimed t cs

-- the claims are good, and each terminal has the place that it is given to
pub record HasTerminals (cs : List Claim) (terminals : List (Option ℕ)) : Type 0 where
  pub good : are_terminals (numbers cs) ≡ true
  pub each : (t : ℕ) → slice_index_or terminals t None ≡ claimed (pos t) cs

-- the grant is good, and these are the places of its accounts, and its mode
pub record IsPlacing (names : List Text) (g : WrittenGrant) (p : Placing) : Type 0 where
  pub good : is_grant names g ≡ true
  pub from : slice_get names p.from ≡ Some g.from
  pub to : slice_get names p.to ≡ Some g.to
  pub mode : mode_named g.mode ≡ Some (mode_of p.mode)

-- these are the grants, between accounts that are there
pub record AreGranted (names : List Text) (gs : List WrittenGrant) (ps : List Placed) : Type 0 where
  pub same : map (named names) ps ≡ map grant_of gs
  pub among : All (IsAmong (length names)) ps
