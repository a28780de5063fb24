-- SPDX-License-Identifier: Apache-2.0
-- The keys of a table, against those that it may have.
use Rattle.mgrant.proofs.GrantWords.{◌≡◌, ap, Bool, true, List, [], ◌∷◌, String, Global, Bor, string_bytes, refl, ◌&&◌, ◌||◌, list_any, keys_of, Text, text_eq}
use Rattle.mgrant.proofs.GrantWords.{members_view, Entry, has_only, keys_view}

-- each key is among these
abbrev pub keys_only : List Text → List (String Global) → Bool
keys_only allowed [] = true
keys_only allowed (k ∷ ks) = list_any (text_eq (string_bytes k)) allowed && keys_only allowed ks

pub has_only-keys : (allowed : List Text) (es : List Entry) → keys_only allowed (keys_of es) ≡ has_only allowed (members_view es)
has_only-keys allowed [] = refl
has_only-keys allowed (e ∷ es) = ap (λ b. list_any (text_eq (string_bytes e.0)) allowed && b) (has_only-keys allowed es)

pub among_view : (key : Text) (keys : List (Bor Text)) → list_any (λ other. text_eq key other.now) keys ≡ list_any (text_eq key) (keys_view keys)
among_view key [] = refl
among_view key (k ∷ ks) = ap (λ b. text_eq key k.now || b) (among_view key ks)
