-- SPDX-License-Identifier: Apache-2.0
-- The map that the rows are.
use Rattle.mstore.proofs.Words.{◌≡◌, ◌≢◌, ℕ, Bool, cond, true, false, List, [], ◌∷◌, option_map, Option, Some, None, refl, sym, ap, subst, ◌∙◌, inl, inr, Row}
use Rattle.mstore.proofs.Words.{Has, has_found, same_bytes, bytes_eq_refl, AreRows, lookup, is_at, key_of, value_of}
use Rattle.std.proofs.Common.{find, true≢false}

pub at_itself : (r : Row) (k : List ℕ) → key_of r ≡ k → is_at k r ≡ true
at_itself r k same = subst (λ q. is_at q r ≡ true) same (bytes_eq_refl (key_of r))

-- where the key is, if it is there
pub lookup_some : (rows : List Row) (k v : List ℕ) → lookup rows k ≡ Some v → (r : Row) × Has rows r × (key_of r ≡ k) × (value_of r ≡ v)
lookup_some rows k v h = go (find (is_at k) rows) refl h
  where
    go : (o : Option Row) → find (is_at k) rows ≡ o → option_map value_of o ≡ Some v → (r : Row) × Has rows r × (key_of r ≡ k) × (value_of r ≡ v)
    go None e h = absurd cc
    go (Some r) e h = let it = has_found (is_at k) rows r e in let same : value_of r ≡ v = cc in (r, it.0, same_bytes (key_of r) k it.1, same)

pub lookup_has : {F : List ℕ → List ℕ → Type 0} (rows : List Row) (r : Row) → AreRows F rows → Has rows r → lookup rows (key_of r) ≡ Some (value_of r)
lookup_has rows r nodes h = go (find (is_at (key_of r)) rows) refl
  where
    none : (rows : List Row) → Has rows r → find (is_at (key_of r)) rows ≢ None
    none [] h e = h
    none (s ∷ rows) h e = step (is_at (key_of r) s) refl h e (none rows)
      where
        step : (b : Bool) → is_at (key_of r) s ≡ b → Has (s ∷ rows) r → cond b (Some s) (find (is_at (key_of r)) rows) ≡ None → (Has rows r → find (is_at (key_of r)) rows ≢ None) → ⊥
        step true t h e more = absurd cc
        step false t (inl same) e more = true≢false (sym (ap (is_at (key_of r)) (sym same) ∙ at_itself r (key_of r) refl) ∙ t)
        step false t (inr later) e more = more later e

    go : (o : Option Row) → find (is_at (key_of r)) rows ≡ o → option_map value_of o ≡ Some (value_of r)
    go None e = absurd (none rows h e)
    go (Some s) e = let it = has_found (is_at (key_of r)) rows s e in ap (λ t. Some (value_of t)) (nodes.keys s r it.0 h (same_bytes (key_of s) (key_of r) it.1))

pub lookup_none : (rows : List Row) (k : List ℕ) → ((r : Row) → Has rows r → key_of r ≢ k) → lookup rows k ≡ None
lookup_none rows k none = go (find (is_at k) rows) refl
  where
    go : (o : Option Row) → find (is_at k) rows ≡ o → option_map value_of o ≡ None
    go None e = refl
    go (Some r) e = let it = has_found (is_at k) rows r e in absurd (none r it.0 (same_bytes (key_of r) k it.1))
