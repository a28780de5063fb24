-- SPDX-License-Identifier: Apache-2.0
-- Lists of actuals by their number: of two or more none is alone in its brackets, and one or more are a list.
use Rattle.std.proofs.Common.{◌≡◌, ◌≤◌, Bool, true, false, List, [], ◌∷◌, length, map, refl, arith}
use Rattle.mgrammar.specs.Grammar.{ActualTree, missing_actual, value_actual, name_actual, indirect_actual, ActualsTree, actuals, actuals_of}
use Rattle.mmeaning.specs.Expression.{is_bare}
use Rattle.mmeaning.specs.Programs.{is_list}

two_apart : (a b : ActualTree) (rest : ActualsTree) → is_bare (actuals a (actuals b rest)) ≡ false
two_apart missing_actual b rest = refl
two_apart (value_actual e) b rest = refl
two_apart (name_actual name) b rest = refl
two_apart (indirect_actual p) b rest = refl

pub several_apart : {A : Type 0} (f : A → ActualTree) (xs : List A) → 2 ≤ length xs → is_bare (actuals_of (map f xs)) ≡ false
several_apart f [] h = refl
several_apart f (x ∷ []) h = absurd (omega (arith, h))
several_apart f (x ∷ y ∷ rest) h = two_apart (f x) (f y) (actuals_of (map f rest))

pub some_listed : {A : Type 0} (f : A → ActualTree) (xs : List A) → 1 ≤ length xs → is_list (actuals_of (map f xs)) ≡ true
some_listed f [] h = absurd (omega (arith, h))
some_listed f (x ∷ rest) h = refl
