-- SPDX-License-Identifier: Apache-2.0
-- What the tests of the statements say of a row.
use Rattle.mstore.proofs.Words.{arith, ◌≡◌, ℕ, Bool, false, List, [], ◌∷◌, ap, ◌∙◌, Blob, Row, column, Binary, Compare, Eq, is_true, at_blobs, last_term}
use Rattle.mstore.proofs.Words.{binary, in_bounds, IsNode, key_of, value_of, is_at}
use Rattle.mstore.proofs.Texts.{at_key, in_range}
use Rattle.mstore.proofs.Answer.{passes}

pub key_column : (r : Row) → IsNode r → column r 1 ≡ Blob (key_of r)
key_column r h = ap (λ s. column s 1) h

pub value_column : (r : Row) → IsNode r → column r 2 ≡ Blob (value_of r)
value_column r h = ap (λ s. column s 2) h

-- the key is in the range
abbrev pub is_within : List ℕ → List ℕ → Row → Bool
is_within low high r = in_bounds low high (key_of r)

pub at_key_is : (k : List ℕ) (r : Row) → IsNode r → passes at_key (Blob k ∷ []) r ≡ is_at k r
at_key_is k r node = last_term (ap (λ v. is_true (binary (Compare Eq Binary) v (Blob k))) (key_column r node) ∙ at_blobs false Eq (key_of r) k)

pub in_range_is : (low high : List ℕ) (r : Row) → IsNode r → passes in_range (Blob low ∷ Blob high ∷ []) r ≡ is_within low high r
in_range_is low high r node = grind (arith, key_column, at_blobs, last_term)
