-- SPDX-License-Identifier: Apache-2.0
-- Names, each with what its actual hands over, one after the other.
use Rattle.mcommand.proofs.CommandWords.{◌≡◌, ◌≤◌, ◌++◌, ◌∷◌, [], List, map, length, Option, Some, None, Global, arith, refl, sym, ap, ◌∙◌, append_assoc}
use Rattle.mcommand.proofs.CommandWords.{into_iter_items, into_iter_steps, Text}
use Rattle.std.specs.Prelude.{unwrap_or}
use Rattle.std.specs.declared.vec.IntoIter.{IntoIter}
use Rattle.std.proofs.lemmas.List.{map_push}
use Rattle.mspec.proofs.ListPlaces.{none_left}
use Rattle.mspec.specs.Scopes as scopes
use Rattle.mmeaning.specs.Parameters as meaning
use Rattle.mlocal.specs.Bindings.{binding_of, bindings_of}
use Rattle.mlocal.specs.declared.binding.Binding.{Binding}
use Rattle.mlocal.specs.declared.binding.Binding.TheVariants.{Unset}

-- what is handed over next; a variable without a value, if nothing is left
abbrev next_binding : Option Binding → Binding
next_binding o = unwrap_or o Unset

-- once nothing is left
nothing_in : (it : IntoIter Binding Global) → it.rest.len ≡ 0 → into_iter_items it ≡ []
nothing_in it none = let few : length (into_iter_items it) ≤ 0 = let ok = it.rest.ok.0 in omega (arith, ok, none) in none_left 0 (into_iter_items it) few

pub pair_next : (name : Text) (names : List Text) (s t : IntoIter Binding Global) (o : Option Binding) → into_iter_steps s o t
    → meaning.paired (name ∷ names) (map binding_of (into_iter_items s)) ≡ (name, binding_of (next_binding o)) ∷ meaning.paired names (map binding_of (into_iter_items t))
pair_next name names s t None h = rw (nothing_in s h.0, nothing_in t h.1) refl
pair_next name names s t (Some b) h = rw h.0 refl

-- one pair more
pub pair_pushed : (made : List (Text × Binding)) (name : Text) (names : List Text) (s t : IntoIter Binding Global) (o : Option Binding) → into_iter_steps s o t
    → bindings_of made ++ meaning.paired (name ∷ names) (map binding_of (into_iter_items s)) ≡ bindings_of (made ++ (name, next_binding o) ∷ []) ++ meaning.paired names (map binding_of (into_iter_items t))
pair_pushed made name names s t o h =
    ap (λ (xs : List (Text × scopes.Binding)). bindings_of made ++ xs) (pair_next name names s t o h)
    ∙ sym (append_assoc (bindings_of made) ((name, binding_of (next_binding o)) ∷ []) (meaning.paired names (map binding_of (into_iter_items t))))
    ∙ ap (λ (xs : List (Text × scopes.Binding)). xs ++ meaning.paired names (map binding_of (into_iter_items t))) (sym (map_push (λ (b : Text × Binding). (b.0, binding_of b.1)) made (name, next_binding o)))
