-- SPDX-License-Identifier: Apache-2.0
-- The names that are read from a document are those of the accounts that it gives.
use Rattle.mislands.proofs.IslandWords.{◌≡◌, ℕ, ℤ, Bool, true, false, cond, List, [], ◌∷◌, map, Option, Some, None, codes, refl, ap, ◌∙◌, option_map}
use Rattle.mislands.proofs.IslandWords.{option_and_then, nat_le, none-some, same_Some, Data, Members, Items, no_items, item, get_member, as_array, as_table}
use Rattle.mislands.proofs.IslandWords.{Text, has_only, account_keys, document_keys, text_at, integers_at, integer_at, account_with, account_in}
use Rattle.mislands.proofs.IslandWords.{written_account, written_grant, each_read, entries_of, entries_in, max_entries, count_items, WrittenAccount}
use Rattle.mislands.proofs.IslandWords.{WrittenGrant, Written, written, written_with, settings_of, names_of, written_name, written_names, language_at}
use Rattle.mislands.specs.Written.{names_at}

-- what a choice gives, if that is something
some_chosen : {X : Type 0} (b : Bool) (o : Option X) (x : X) → cond b o None ≡ Some x → o ≡ Some x
some_chosen true o x e = e
some_chosen false o x e = absurd (none-some x e)

account_name : (name : Option Text) (terminals : Option (List ℤ)) (steps : Option ℤ) (language : Option ℕ) (a : WrittenAccount) → account_with name terminals steps language ≡ Some a → name ≡ Some a.name
account_name (Some name) (Some terminals) (Some steps) (Some language) a e = ap Some (ap (λ b. b.name) (same_Some _ a e))
account_name (Some name) (Some terminals) (Some steps) None a e = absurd (none-some a e)
account_name (Some name) (Some terminals) None language a e = absurd (none-some a e)
account_name (Some name) None steps language a e = absurd (none-some a e)
account_name None terminals steps language a e = absurd (none-some a e)

table_name : (o : Option Members) (a : WrittenAccount) → option_and_then account_in o ≡ Some a → option_and_then (text_at (codes "name")) o ≡ Some a.name
table_name None a e = absurd (none-some a e)
table_name (Some ms) a e =
    account_name (text_at (codes "name") ms) (integers_at (codes "terminals") ms) (integer_at (codes "steps") ms) (language_at ms) a
    (some_chosen (has_only account_keys ms) (account_with (text_at (codes "name") ms) (integers_at (codes "terminals") ms) (integer_at (codes "steps") ms) (language_at ms)) a e)

abbrev named : List WrittenAccount → List Text
named accounts = map (λ a. a.name) accounts

with_first : (first : Option WrittenAccount) (later : Option (List WrittenAccount)) (name : Option Text) (names : Option (List Text)) (accounts : List WrittenAccount)
    → ((a : WrittenAccount) → first ≡ Some a → name ≡ Some a.name) → ((rest : List WrittenAccount) → later ≡ Some rest → names ≡ Some (named rest))
    → option_and_then (λ x. option_map (λ xs. x ∷ xs) later) first ≡ Some accounts → option_and_then (λ x. option_map (λ xs. x ∷ xs) names) name ≡ Some (named accounts)
with_first None later name names accounts here there e = absurd (none-some accounts e)
with_first (Some a) None name names accounts here there e = absurd (none-some accounts e)
with_first (Some a) (Some rest) name names accounts here there e =
    rw (here a refl, there rest refl) (ap Some (ap named (same_Some (a ∷ rest) accounts e)))

each_name : (ds : Items) (accounts : List WrittenAccount) → each_read written_account ds ≡ Some accounts → each_read written_name ds ≡ Some (named accounts)
each_name no_items accounts e = ap Some (ap named (same_Some [] accounts e))
each_name (item d ds) accounts e =
    with_first (written_account d) (each_read written_account ds) (written_name d) (each_read written_name ds) accounts (λ a is. table_name (as_table d) a is) (λ rest is. each_name ds rest is) e

names_read : (o : Option Items) (accounts : List WrittenAccount) → option_and_then (entries_of written_account) o ≡ Some accounts → option_and_then (each_read written_name) o ≡ Some (named accounts)
names_read None accounts e = absurd (none-some accounts e)
names_read (Some ds) accounts e = each_name ds accounts (some_chosen (nat_le (count_items ds) max_entries) (each_read written_account ds) accounts e)

list_names : (o : Option Data) (accounts : List WrittenAccount) → entries_in written_account o ≡ Some accounts → names_at o ≡ Some (named accounts)
list_names None accounts e = ap Some (ap named (same_Some [] accounts e))
list_names (Some d) accounts e = names_read (as_array d) accounts e

with_accounts : (accounts : Option (List WrittenAccount)) (grants : Option (List WrittenGrant)) (w : Written) → written_with accounts grants ≡ Some w → accounts ≡ Some w.accounts
with_accounts (Some accounts) (Some grants) w e = ap Some (ap (λ x. x.accounts) (same_Some _ w e))
with_accounts (Some accounts) None w e = absurd (none-some w e)
with_accounts None grants w e = absurd (none-some w e)

settings_names : (accounts : List WrittenAccount) (w : Written) → accounts ≡ w.accounts → named accounts ≡ names_of (settings_of w)
settings_names accounts w e = ap named e ∙ same w.accounts where
  same : (all : List WrittenAccount) → named all ≡ map (λ a. a.name) (map Rattle.mgrant.specs.Document.account_of all)
  same [] = refl
  same (a ∷ rest) = ap (λ ns. a.name ∷ ns) (same rest)

pub names_written : (doc : Members) (w : Written) → written doc ≡ Some w → written_names doc ≡ Some (names_of (settings_of w))
names_written doc w e =
    let accounts = entries_in written_account (get_member (codes "account") doc) in
    let grants = entries_in written_grant (get_member (codes "grant") doc) in
    let is : accounts ≡ Some w.accounts = with_accounts accounts grants w (some_chosen (has_only document_keys doc) (written_with accounts grants) w e) in
    list_names (get_member (codes "account") doc) w.accounts is ∙ ap Some (settings_names w.accounts w refl)
