-- SPDX-License-Identifier: Apache-2.0
-- The test of what is within a node tells it.
use Rattle.mspec.proofs.SpecWords.{◌≡◌, true, ◌&&◌, [], ◌∷◌, length, drop, inl, inr, refl, sym, subst, bytes_decides, and_parts, is_node_within, IsWithin, Node}
use Rattle.mspec.proofs.SpecWords.{text_eq, is_within, append-nil}
use Rattle.std.proofs.lemmas.Slice.Eq.{starts_is}
use Rattle.mspec.proofs.Basics.{all_true}
use Rattle.mspec.proofs.KeyRanges.{within}

pub within_of : (n m : Node) → is_node_within n m ≡ true → IsWithin n m
within_of n m e =
    let first = and_parts (text_eq n.account m.account) (text_eq n.name m.name && is_within n.subscripts m.subscripts) e in
    let second = and_parts (text_eq n.name m.name) (is_within n.subscripts m.subscripts) first.1 in
    within n m (drop (length n.subscripts) m.subscripts) ((bytes_decides n.account m.account).0 first.0) ((bytes_decides n.name m.name).0 second.0)
    ((starts_is bytes_decides m.subscripts n.subscripts (is_within n.subscripts m.subscripts) refl).0 second.1)

pub of_within : (n m : Node) → IsWithin n m → is_node_within n m ≡ true
of_within n m (inl same) =
    subst (λ q. is_node_within n q ≡ true) same
    (all_true (text_eq n.account n.account) (text_eq n.name n.name) (is_within n.subscripts n.subscripts) ((bytes_decides n.account n.account).1 refl) ((bytes_decides n.name n.name).1 refl)
    ((starts_is bytes_decides n.subscripts n.subscripts (is_within n.subscripts n.subscripts) refl).1 [] (sym (append-nil n.subscripts))))
of_within n m (inr above) =
    all_true (text_eq n.account m.account) (text_eq n.name m.name) (is_within n.subscripts m.subscripts) ((bytes_decides n.account m.account).1 above.account) ((bytes_decides n.name m.name).1 above.name)
    ((starts_is bytes_decides m.subscripts n.subscripts (is_within n.subscripts m.subscripts) refl).1 (above.longer.0 ∷ above.longer.1) above.longer.2)
