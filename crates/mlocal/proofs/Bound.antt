-- SPDX-License-Identifier: Apache-2.0
-- The formal parameters of a level, the last one first.
use Rattle.mlocal.proofs.LocalWords.{◌≡◌, List, [], ◌∷◌, ◌++◌, refl, ap, Text, Scope, bind, formals, binding_of, bindings_of}
use Rattle.mlocal.specs.declared.binding.Binding.{Binding}

pub last_bound : (bs : List (Text × Binding)) (b : Text × Binding) (s : Scope) → formals (bindings_of (bs ++ b ∷ [])) s ≡ formals (bindings_of bs) (bind b.0 (binding_of b.1) s)
last_bound [] b s = refl
last_bound (c ∷ bs) b s = ap (bind c.0 (binding_of c.1)) (last_bound bs b s)
