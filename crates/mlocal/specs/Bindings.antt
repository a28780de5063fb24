-- SPDX-License-Identifier: Apache-2.0
-- The formal parameters of the code.
use Rattle.std.specs.Prelude.{List, map}
use Rattle.mlocal.specs.declared.binding.Binding.{Binding}
use Rattle.mlocal.specs.declared.binding.Binding.TheVariants.{Valued, Linked, Unset}
use Rattle.mspec.specs.Node.{Text}
use Rattle.mspec.specs.Scopes as scopes

abbrev pub binding_of : Binding → scopes.Binding
binding_of (Valued x) = scopes.valued x
binding_of (Linked n) = scopes.linked_to n
binding_of Unset = scopes.unset

abbrev pub bindings_of : List (Text × Binding) → List (Text × scopes.Binding)
bindings_of bs = map (λ b. (b.0, binding_of b.1)) bs
