-- SPDX-License-Identifier: Apache-2.0
-- What surroundings in memory hold: each at one path, or at one port.
use Rattle.std.specs.Prelude.{ℕ, ◌==◌, List, [], ◌∷◌, Option, Some, None, if◌then◌else◌}
use Rattle.mspec.specs.Act.{Text}
use Rattle.mspec.specs.Trees.{text_eq}

abbrev pub at_path : {X : Type 0} → (own path : Text) → Option X → Option X
at_path own path held = if text_eq own path then held else None

abbrev pub at_port : {X : Type 0} → (own number : ℕ) → X → X → X
at_port own number held other = if own == number then held else other

-- the first of those that are left
abbrev pub first_left : {X : Type 0} → List X → Option X
first_left [] = None
first_left (x ∷ xs) = Some x
