-- SPDX-License-Identifier: Apache-2.0
-- The values of a list, read one after another.
use Rattle.mgrant.proofs.GrantWords.{◌≡◌, ◌<◌, ◌++◌, ap, refl, sym, ℕ, suc, ◌≤◌, List, [], ◌∷◌, Option, Some, None, length, get_or, drop, option_map}
use Rattle.mgrant.proofs.GrantWords.{append-nil, ◌∙◌, drop_more, drop_all, lt-leb, le-leb, Data, view, items_view, each_read, entries_of, max_entries}
use Rattle.mgrant.proofs.GrantWords.{count_items}
use Rattle.toml.specs.declared.value.Value.{Value}

count_view : (vs : List Value) → count_items (items_view vs) ≡ length vs
count_view [] = refl
count_view (v ∷ vs) = ap suc (count_view vs)

module _ {X : Type 0} (read : Data → Option X) where
  -- one that can't be read
  pub none_read : (xs : List Value) (i : ℕ) (d : Value) → i < length xs → read (view (get_or xs i d)) ≡ None → each_read read (items_view (drop i xs)) ≡ None
  none_read xs i d within e = rw (drop_more xs i d within, e) refl

  -- a list that is too long, and one that is not
  pub too_long : (vs : List Value) → max_entries < length vs → entries_of read (items_view vs) ≡ None
  too_long vs long = rw (count_view vs, lt-leb (length vs) max_entries long) refl

  pub short_enough : (vs : List Value) → length vs ≤ max_entries → entries_of read (items_view vs) ≡ each_read read (items_view vs)
  short_enough vs short = rw (count_view vs, le-leb (length vs) max_entries short) refl

  -- all have been read
  pub all_read : (vs : List Value) (i : ℕ) (all : List X) → length vs ≤ i → length vs ≤ max_entries
      → option_map (λ xs. all ++ xs) (each_read read (items_view (drop i vs))) ≡ each_read read (items_view vs) → Some all ≡ entries_of read (items_view vs)
  all_read vs i all past short e =
      ap Some (sym (append-nil all)) ∙ ap (λ xs. option_map (λ zs. all ++ zs) (each_read read (items_view xs))) (sym (drop_all i vs past)) ∙ e ∙ sym (short_enough vs short)
