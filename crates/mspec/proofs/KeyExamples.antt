-- SPDX-License-Identifier: Apache-2.0
-- The order of nodes and the bytes of keys on examples, as proved equations.
use Rattle.mspec.proofs.SpecWords.{◌≡◌, ℕ, List, [], ◌∷◌, refl, rules, codes, Ordering, Less, Greater, significant_digits, text_cmp, node_cmp, key_bytes}
use Rattle.mspec.proofs.SpecWords.{number_bytes, replicate}
use Rattle.mspec.proofs.ComputedNumbers.{computes}

-- the key of account A, global B and one subscript, after its two names
abbrev key_of : List ℕ → List ℕ
key_of s = key_bytes significant_digits (record { account = codes "A"; name = codes "B"; subscripts = s ∷ [] })

-- the keys of texts
record Keys : Type 0 where
  key_of_1 : key_of (codes "1") ≡ 66 ∷ 0 ∷ 67 ∷ 0 ∷ 1 ∷ 128 ∷ 0 ∷ 0 ∷ 0 ∷ 0 ∷ 0 ∷ 0 ∷ 0 ∷ 13 ∷ 224 ∷ 182 ∷ 179 ∷ 167 ∷ 100 ∷ 0 ∷ 0 ∷ []
  key_of_half : key_of (codes ".5") ≡ 66 ∷ 0 ∷ 67 ∷ 0 ∷ 1 ∷ 128 ∷ 0 ∷ 0 ∷ 0 ∷ 0 ∷ 0 ∷ 0 ∷ 0 ∷ 6 ∷ 240 ∷ 91 ∷ 89 ∷ 211 ∷ 178 ∷ 0 ∷ 0 ∷ []
  key_of_minus_1 : key_of (codes "-1") ≡ 66 ∷ 0 ∷ 67 ∷ 0 ∷ 1 ∷ 127 ∷ 255 ∷ 255 ∷ 255 ∷ 255 ∷ 255 ∷ 255 ∷ 255 ∷ 242 ∷ 31 ∷ 73 ∷ 76 ∷ 88 ∷ 156 ∷ 0 ∷ 0 ∷ []
  key_of_letter : key_of (codes "A") ≡ 66 ∷ 0 ∷ 67 ∷ 0 ∷ 2 ∷ 66 ∷ 0 ∷ []
  key_of_leading_zero : key_of (codes "01") ≡ 66 ∷ 0 ∷ 67 ∷ 0 ∷ 2 ∷ 49 ∷ 50 ∷ 0 ∷ []

keys : Keys
unfolding computes number_bytes
keys = search rules

-- the order of each text with the next
abbrev steps : List (List ℕ) → List Ordering
steps [] = []
steps (s ∷ []) = []
steps (s ∷ t ∷ more) = text_cmp significant_digits s t ∷ steps (t ∷ more)

texts_in_order : steps (codes "" ∷ codes "-1" ∷ codes ".5" ∷ codes "9" ∷ codes "10" ∷ codes "01" ∷ codes "1.0" ∷ codes "A" ∷ codes "a" ∷ []) ≡ replicate 8 Less
unfolding computes
texts_in_order = refl

-- a name with two subscripts, and with the first alone
longer_behind : node_cmp significant_digits (record { account = codes "A"; name = codes "B"; subscripts = codes "2" ∷ codes "x" ∷ [] }) (record { account = codes "A"; name = codes "B"; subscripts = codes "2" ∷ [] }) ≡ Greater
unfolding computes
longer_behind = refl

-- with fifteen digits a text of sixteen is no number
sixteen_digits : text_cmp 15 (codes "1234567890123456") (codes "0A") ≡ Greater
unfolding computes
sixteen_digits = refl
