-- SPDX-License-Identifier: Apache-2.0
-- Which formal parameters a line has for actuals.
use Rattle.mcommand.proofs.CommandWords.{◌≡◌, ◌<◌, ◌≤◌, Bool, true, false, sym, [], ◌∷◌, List, length, map, Option, Some, None, arith, refl, Text, Act, ◌>>◌}
use Rattle.mcommand.proofs.CommandWords.{give, Yields, fault_of, Ok, Err}
use Rattle.std.specs.Prelude.{nat_le, not}
use Rattle.std.proofs.lemmas.Bool.{false≢true}
use Rattle.std.proofs.lemmas.List.{length-map}
use Rattle.std.proofs.lemmas.Bool.Decides.{nat_tests}
use Rattle.mspec.specs.Act.{unless}
use Rattle.mspec.specs.Code as spec
use Rattle.mspec.specs.Scopes.{Binding}
use Rattle.mgrammar.specs.Grammar.{ActualTree, ActualsTree, no_actuals, actuals, actuals_of}
use Rattle.mmeaning.specs.Parameters.{formals_for, paired}
use Rattle.mmeaning.specs.Programs.{listed, is_list}
use Rattle.moperator.specs.declared.code.Code.TheVariants as code

-- a line with a formal list
abbrev with_names : ActualsTree → List Text → List Binding → Act (Option (List (Text × Binding)))
with_names xs names bs = unless spec.M58 (nat_le (length bs) (length names)) >> give (Some (paired names bs))

for_list : (xs : ActualsTree) (names : List Text) (bs : List Binding)
    → ◌≡◌ {A = Act (Option (List (Text × Binding)))} (formals_for xs (Some names) bs) (with_names xs names bs)
for_list no_actuals names bs = refl
for_list (actuals a rest) names bs = refl

-- whether a list of actuals is written is all that counts
pub listed_alike : (xs : ActualsTree) (names : Option (List Text)) (bs : List Binding)
    → ◌≡◌ {A = Act (Option (List (Text × Binding)))} (formals_for xs names bs) (formals_for (listed (is_list xs)) names bs)
listed_alike no_actuals names bs = refl
listed_alike (actuals a rest) None bs = refl
listed_alike (actuals a rest) (Some names) bs = refl

pub is_written : {Y : Type 0} (tree : Y → ActualTree) (ys : List Y) (b : Bool) → (b ≡ true → length ys ≡ 0) → (b ≡ false → 0 < length ys)
    → is_list (actuals_of (map tree ys)) ≡ not b
is_written tree [] true none some = refl
is_written tree [] false none some = absurd (let h = some refl in omega (arith, h))
is_written tree (y ∷ ys) true none some = absurd (let h = none refl in omega (arith, h))
is_written tree (y ∷ ys) false none some = refl

module _ {X : Type 0} {j : X → Option (List (Text × Binding))} where
  -- neither a list of actuals nor of formal parameters
  pub none_there : (b : Bool) (bs : List Binding) (x : X) → b ≡ false → j x ≡ None → Yields fault_of (formals_for (listed b) None bs) j (Ok x)
  none_there false bs x none is = record { ends = λ s. rw is refl }
  none_there true bs x none is = absurd (false≢true (sym none))

  -- a list of actuals, but none of formal parameters
  pub list_missing : (b : Bool) (bs : List Binding) → b ≡ true → Yields fault_of (formals_for (listed b) None bs) j (Err code.M20)
  list_missing false bs some = absurd (false≢true some)
  list_missing true bs some = record { ends = λ s. refl }

  too_many : (xs : ActualsTree) (names : List Text) (bs : List Binding) → nat_le (length bs) (length names) ≡ false
      → Yields fault_of (formals_for xs (Some names) bs) j (Err code.M58)
  too_many xs names bs many = rw (for_list xs names bs) (record { ends = λ s. rw many refl })

  enough : (xs : ActualsTree) (names : List Text) (bs : List Binding) (x : X) → nat_le (length bs) (length names) ≡ true → j x ≡ Some (paired names bs)
      → Yields fault_of (formals_for xs (Some names) bs) j (Ok x)
  enough xs names bs x few is = rw (for_list xs names bs) (record { ends = λ s. rw (few, is) refl })

  -- more actuals than formal parameters
  pub too_many_for : {Z : Type 0} (xs : ActualsTree) (names : List Text) (given : List Z) (view : Z → Binding) → length names < length given
      → Yields fault_of (formals_for xs (Some names) (map view given)) j (Err code.M58)
  too_many_for xs names given view less = too_many xs names (map view given) (grind (arith, nat_tests, length-map given view, less))

  -- no more than those
  pub enough_for : {Z : Type 0} (xs : ActualsTree) (names : List Text) (given : List Z) (view : Z → Binding) (x : X) → length given ≤ length names
      → j x ≡ Some (paired names (map view given))
      → Yields fault_of (formals_for xs (Some names) (map view given)) j (Ok x)
  enough_for xs names given view x few is = enough xs names (map view given) x (grind (arith, nat_tests, length-map given view, few)) is
