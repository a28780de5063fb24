-- SPDX-License-Identifier: Apache-2.0
-- Settings: accounts, the terminals that belong to them, and what they grant one another; who may read and write what.
--
-- The standard has no accounts: this is mserve's own. An account may do anything with its own globals, and with those of
-- another what a grant allows. Being allowed to write includes being allowed to read.
use Rattle.std.specs.Prelude.{ℕ, Bool, true, false, ◌&&◌, ◌||◌, List, [], slice_get, Option, option_map, unwrap_or}
use Rattle.std.specs.List.{list_any, find}
use Rattle.std.specs.Ordering.{nat_cmp}
use Rattle.std.specs.FinMap.{FinMap, get}
use Rattle.mspec.specs.Node.{Text}
use Rattle.mspec.specs.Trees.{text_eq}

-- what a grant allows: reading (value, $DATA, $GET, $ORDER), or reading and writing (SET, KILL, LOCK)
pub data Mode : Type 0 where
  Read : Mode
  Write : Mode

-- one account lets another use one of its globals
pub record Grant : Type 0 where
  pub from : Text
  pub to : Text
  pub global : Text
  pub mode : Mode

-- an account, the steps that each of its lines may use, and the language that these are read in: 0, the profile, or 1
pub record Account : Type 0 where
  pub name : Text
  pub steps : ℕ
  pub language : ℕ

-- the accounts in some order, the account of each terminal, and the grants
pub record Settings : Type 0 where
  pub accounts : List Account
  pub terminals : FinMap nat_cmp Account
  pub grants : List Grant

-- ---- accounts

-- the account of a terminal
abbrev pub account_of : Settings → ℕ → Option Account
account_of settings terminal = get settings.terminals terminal

-- the account at a place among them; its name and its steps, which are empty and 0 if there is none
abbrev pub account_at : Settings → ℕ → Option Account
account_at settings place = slice_get settings.accounts place

abbrev pub name_at : Settings → ℕ → Text
name_at settings place = unwrap_or (option_map (λ a. a.name) (account_at settings place)) []

abbrev pub steps_at : Settings → ℕ → ℕ
steps_at settings place = unwrap_or (option_map (λ a. a.steps) (account_at settings place)) 0

abbrev pub language_at : Settings → ℕ → ℕ
language_at settings place = unwrap_or (option_map (λ a. a.language) (account_at settings place)) 0

-- the account of a name
abbrev pub account_named : Settings → Text → Option Account
account_named settings name = find (λ a. text_eq name a.name) settings.accounts

-- ---- access

abbrev pub allows : Mode → Mode → Bool
allows Write asked = true
allows Read Read = true
allows Read Write = false

-- the grant lets `me` use the global of the owner in this mode
abbrev pub lets : Text → Text → Text → Mode → Grant → Bool
lets me owner name mode g = (text_eq owner g.from && text_eq me g.to) && (text_eq name g.global && allows g.mode mode)

-- an account may use a global of an owner in this mode: the owner is the account itself, or has granted it
abbrev pub may : Settings → (me owner name : Text) → Mode → Bool
may settings me owner name mode = text_eq owner me || list_any (lets me owner name mode) settings.grants
