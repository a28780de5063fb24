-- SPDX-License-Identifier: Apache-2.0
-- A document of settings: what it says, and what is wrong with it.
--
-- The document is seen as `toml` sees it, as members: keys with data. It has a list `account` of tables with the keys `name`,
-- `terminals` and `steps`, and a list `grant` of tables with the keys `from`, `to`, `global` and `mode`.
use Rattle.std.specs.Prelude.{◌≡◌, ℕ, suc, ℤ, pos, negsuc, Bool, true, false, not, ◌&&◌, nat_le, if◌then◌else◌, List, [], ◌∷◌, length, map, codes, Option, Some}
use Rattle.std.specs.Prelude.{None, is_some, option_map, option_and_then, unwrap_or, unsigned_abs, IsUtf8}
use Rattle.std.specs.List.{list_any, list_all, flat_map}
use Rattle.std.specs.FinMap.{from_entries}
use Rattle.std.specs.Ordering.{int_eq}
use Rattle.toml.specs.Data.{Data, Members, no_members, member, Items, no_items, item, get_member, as_str, as_integer, as_array, as_table}
use Rattle.toml.specs.Parse.{parse_document}
use Rattle.mspec.specs.Node.{Text}
use Rattle.mspec.specs.Trees.{text_eq}
use Rattle.mspec.specs.Names.{is_name_start, is_name_rest}
pub use Rattle.mspec.specs.Limits.{max_entries}
use Rattle.mspec.specs.Limits.{max_name_rest, max_terminal, max_steps}
pub use Rattle.mspec.specs.Subscripts.{is_account_name}
use Rattle.mspec.specs.Access.{Account, Grant, Settings, Mode, Read, Write}
use Rattle.mgrant.specs.declared.fault.SettingsFault.{SettingsFault}
use Rattle.mgrant.specs.declared.fault.SettingsFault.TheVariants as fault

-- the bytes are a document with these members
abbrev pub Reads : List ℕ → Members → Type 0
Reads bytes doc = IsUtf8 bytes × (parse_document bytes ≡ Some doc)

-- ---- the shape

-- an entry of the list of accounts, one of the list of grants, and all of them, as they were written
pub record WrittenAccount : Type 0 where
  pub name : Text
  pub terminals : List ℤ
  pub steps : ℤ
  pub language : ℕ

pub record WrittenGrant : Type 0 where
  pub from : Text
  pub to : Text
  pub global : Text
  pub mode : Text

pub record Written : Type 0 where
  pub accounts : List WrittenAccount
  pub grants : List WrittenGrant

-- no key but these
abbrev pub has_only : List Text → Members → Bool
has_only keys no_members = true
has_only keys (member k d ms) = list_any (text_eq k) keys && has_only keys ms

-- what each value of a list is read as, if each can be
abbrev pub each_read : {X : Type 0} → (Data → Option X) → Items → Option (List X)
each_read read no_items = Some []
each_read read (item d ds) = option_and_then (λ x. option_map (λ xs. x ∷ xs) (each_read read ds)) (read d)

abbrev pub text_at : Text → Members → Option Text
text_at key ms = option_and_then as_str (get_member key ms)

abbrev pub integer_at : Text → Members → Option ℤ
integer_at key ms = option_and_then as_integer (get_member key ms)

abbrev pub integers_at : Text → Members → Option (List ℤ)
integers_at key ms = option_and_then (each_read as_integer) (option_and_then as_array (get_member key ms))

-- the language of an account: 0 or 1, and 0 if it is absent
abbrev pub language_of : ℤ → Option ℕ
language_of z = if int_eq z (pos 0) then Some 0 else (if int_eq z (pos 1) then Some 1 else None)

abbrev pub language_said : Option Data → Option ℕ
language_said None = Some 0
language_said (Some d) = option_and_then language_of (as_integer d)

abbrev pub language_at : Members → Option ℕ
language_at ms = language_said (get_member (codes "language") ms)

abbrev pub account_keys : List Text
account_keys = codes "name" ∷ codes "terminals" ∷ codes "steps" ∷ codes "language" ∷ []

abbrev pub grant_keys : List Text
grant_keys = codes "from" ∷ codes "to" ∷ codes "global" ∷ codes "mode" ∷ []

abbrev pub document_keys : List Text
document_keys = codes "account" ∷ codes "grant" ∷ []

abbrev pub account_with : Option Text → Option (List ℤ) → Option ℤ → Option ℕ → Option WrittenAccount
account_with (Some name) (Some terminals) (Some steps) (Some language) = Some (record { name = name; terminals = terminals; steps = steps; language = language })
account_with _ _ _ _ = None

abbrev pub grant_with : Option Text → Option Text → Option Text → Option Text → Option WrittenGrant
grant_with (Some from) (Some to) (Some global) (Some mode) = Some (record { from = from; to = to; global = global; mode = mode })
grant_with _ _ _ _ = None

abbrev pub account_in : Members → Option WrittenAccount
account_in ms =
    if has_only account_keys ms then account_with (text_at (codes "name") ms) (integers_at (codes "terminals") ms) (integer_at (codes "steps") ms) (language_at ms)
    else None

abbrev pub grant_in : Members → Option WrittenGrant
grant_in ms =
    if has_only grant_keys ms then grant_with (text_at (codes "from") ms) (text_at (codes "to") ms) (text_at (codes "global") ms) (text_at (codes "mode") ms)
    else None

-- an entry, which is a table
abbrev pub written_by : {X : Type 0} → (Members → Option X) → Data → Option X
written_by said d = option_and_then said (as_table d)

abbrev pub written_account : Data → Option WrittenAccount
written_account = written_by account_in

abbrev pub written_grant : Data → Option WrittenGrant
written_grant = written_by grant_in

abbrev pub count_items : Items → ℕ
count_items no_items = 0
count_items (item d ds) = suc (count_items ds)

abbrev pub entries_of : {X : Type 0} → (Data → Option X) → Items → Option (List X)
entries_of read ds = if nat_le (count_items ds) max_entries then each_read read ds else None

-- the entries of a list, which may be absent
abbrev pub entries_in : {X : Type 0} → (Data → Option X) → Option Data → Option (List X)
entries_in read None = Some []
entries_in read (Some d) = option_and_then (entries_of read) (as_array d)

abbrev pub written_with : Option (List WrittenAccount) → Option (List WrittenGrant) → Option Written
written_with (Some accounts) (Some grants) = Some (record { accounts = accounts; grants = grants })
written_with _ _ = None

-- what a document says, if it has the right shape
abbrev pub written : Members → Option Written
written doc =
    if has_only document_keys doc then written_with (entries_in written_account (get_member (codes "account") doc)) (entries_in written_grant (get_member (codes "grant") doc))
    else None

-- ---- the faults

-- a name: a letter or `%`, followed by at most 30 letters or digits
abbrev pub is_name : Text → Bool
is_name [] = false
is_name (c ∷ cs) = is_name_start c && (list_all is_name_rest cs && nat_le (length cs) max_name_rest)

-- none is there twice
abbrev pub are_distinct : {X : Type 0} → (X → X → Bool) → List X → Bool
are_distinct same [] = true
are_distinct same (x ∷ xs) = not (list_any (same x) xs) && are_distinct same xs

abbrev pub is_within : ℕ → ℕ → ℤ → Bool
is_within low high (pos n) = nat_le low n && nat_le n high
is_within low high (negsuc n) = false

abbrev pub names_of : List WrittenAccount → List Text
names_of accounts = map (λ a. a.name) accounts

abbrev pub terminals_of : List WrittenAccount → List ℤ
terminals_of accounts = flat_map (λ a. a.terminals) accounts

abbrev pub are_names : List Text → Bool
are_names names = list_all is_account_name names && are_distinct text_eq names

abbrev pub are_terminals : List ℤ → Bool
are_terminals ts = list_all (is_within 1 max_terminal) ts && are_distinct int_eq ts

abbrev pub has_steps : WrittenAccount → Bool
has_steps a = is_within 1 max_steps a.steps

abbrev pub are_steps : List WrittenAccount → Bool
are_steps accounts = list_all has_steps accounts

abbrev pub mode_named : Text → Option Mode
mode_named t = if text_eq t (codes "read") then Some Read else (if text_eq t (codes "write") then Some Write else None)

abbrev pub is_grant : List Text → WrittenGrant → Bool
is_grant names g =
    (list_any (text_eq g.from) names && list_any (text_eq g.to) names) && (not (text_eq g.from g.to) && (is_name g.global && is_some (mode_named g.mode)))

abbrev pub are_grants : List Text → List WrittenGrant → Bool
are_grants names gs = list_all (is_grant names) gs

abbrev pub fault_of : Written → Option SettingsFault
fault_of w =
    if not (are_names (names_of w.accounts)) then Some fault.Name
    else (if not (are_terminals (terminals_of w.accounts)) then Some fault.Terminal
    else (if not (are_steps w.accounts) then Some fault.Steps
    else (if not (are_grants (names_of w.accounts) w.grants) then Some fault.Grant
    else None)))

abbrev pub fault_in : Option Written → Option SettingsFault
fault_in None = Some fault.Shape
fault_in (Some w) = fault_of w

-- the first fault of a document, over all of it, in the order of the format's table
abbrev pub first_fault : Members → Option SettingsFault
first_fault doc = fault_in (written doc)

-- ---- the settings

abbrev pub account_of : WrittenAccount → Account
account_of a = record { name = a.name; steps = unsigned_abs a.steps; language = a.language }

abbrev pub grant_of : WrittenGrant → Grant
grant_of g = record { from = g.from; to = g.to; global = g.global; mode = unwrap_or (mode_named g.mode) Read }

-- the terminals of an account, each with it
abbrev pub terminals_with : WrittenAccount → List (ℕ × Account)
terminals_with a = map (λ t. (unsigned_abs t, account_of a)) a.terminals

-- the settings that a document without a fault gives
abbrev pub settings_of : Written → Settings
settings_of w = record {
  accounts = map account_of w.accounts;
  terminals = from_entries (flat_map terminals_with w.accounts);
  grants = map grant_of w.grants;
}
