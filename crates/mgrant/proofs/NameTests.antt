-- SPDX-License-Identifier: Apache-2.0
-- When a text is a name.
use Rattle.mgrant.proofs.GrantWords.{◌≡◌, ℕ, Bool, true, [], ◌∷◌, length, refl, nat_le, ◌&&◌, list_all, false≢true, and_parts, and_from, leb-true, le-leb, Text}
use Rattle.mgrant.proofs.GrantWords.{AllAre, IsName, is_name_start, is_name_rest, is_name}

all_are : (p : ℕ → Bool) (cs : Text) → list_all p cs ≡ true → AllAre p cs
all_are p [] e = tt
all_are p (c ∷ cs) e =
    let (here, rest) = and_parts (p c) (list_all p cs) e in
    (here, all_are p cs rest)

are_all : (p : ℕ → Bool) (cs : Text) → AllAre p cs → list_all p cs ≡ true
are_all p [] all = refl
are_all p (c ∷ cs) all = and_from _ _ all.0 (are_all p cs all.1)

pub name_is : (t : Text) → is_name t ≡ true → IsName t
name_is [] e = absurd (false≢true e)
name_is (c ∷ cs) e =
    let (start, rest) = and_parts (is_name_start c) (list_all is_name_rest cs && nat_le (length cs) 30) e in
    let (each, few) = and_parts (list_all is_name_rest cs) (nat_le (length cs) 30) rest in
    (start, all_are is_name_rest cs each, leb-true (length cs) 30 few)

pub name_test : (t : Text) → IsName t → is_name t ≡ true
name_test [] name = absurd name
name_test (c ∷ cs) name = and_from _ _ name.0 (and_from _ _ (are_all is_name_rest cs name.1) (le-leb (length cs) 30 name.2))
