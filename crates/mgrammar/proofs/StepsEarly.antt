-- SPDX-License-Identifier: Apache-2.0
-- Where functions are called in what language 1 has: where each call can be carried out a step at a time.
use Rattle.std.specs.Prelude.{max}
use Rattle.mgrammar.proofs.GrammarWords.{◌≡◌, ◌≤◌, ℕ, Bool, true, false, List, [], ◌∷◌, length, Option, refl, arith, list_all, ArgTree, ExprTree, SpacedTree}
use Rattle.mgrammar.specs.Commands.{since_keyword}
use Rattle.mgrammar.specs.Languages.{since_all, since_optional, since_expr, since_forms, since_calls, since_arg, since_args, since_condition, since_spaced}
use Rattle.mgrammar.specs.ProgramsIn.{in_steps_arg, in_steps_args, in_steps_optional, in_steps_spaced}
use Rattle.mgrammar.specs.GrammarLaws.{FirstIsInSteps}
use Rattle.mgrammar.proofs.ProfileCalls.{profile_forms_have_no_call, profile_condition_has_no_call}
use Rattle.mgrammar.proofs.StepsUncalled.{both, arg_steps, optional_steps}

early : (a b : ℕ) → max a b ≤ 1 → (a ≤ 1) × (b ≤ 1)
early a b h = (omega (arith, h), omega (arith, h))

stepped : (is : Bool) (n : ℕ) → max (since_calls is) n ≤ 1 → is ≡ true
stepped true n h = refl
stepped false n h = absurd (let late : max 2 n ≤ 1 = h in omega (arith, late))

-- each of a list
each_early : {A : Type 0} (since : A → ℕ) (is : A → Bool) → ((x : A) → since x ≤ 1 → is x ≡ true) → (xs : List A) → since_all since xs ≤ 1 → list_all is xs ≡ true
each_early since is one [] h = refl
each_early since is one (x ∷ xs) h =
    let z = early (since x) (since_all since xs) h in
    both (is x) (list_all is xs) (one x z.0) (each_early since is one xs z.1)

arg_early : (a : ArgTree) → since_arg a ≤ 1 → in_steps_arg a ≡ true
arg_early a h = stepped (in_steps_arg a) (since_forms a) h

pub first_args_are_in_steps : (args : List ArgTree) → since_args args ≤ 1 → in_steps_args args ≡ true
first_args_are_in_steps args h = each_early since_arg in_steps_arg arg_early args h

pub first_condition_is_in_steps : (c : Option ExprTree) → since_condition c ≤ 1 → in_steps_optional c ≡ true
first_condition_is_in_steps c h = stepped (in_steps_optional c) (since_optional since_expr c) h

spaced_early : (c : SpacedTree) → since_spaced c ≤ 1 → in_steps_spaced c ≡ true
spaced_early c h =
    let z = early (since_keyword c.0.keyword (length c.0.args)) (max (since_condition c.0.condition) (since_args c.0.args)) h in
    let y = early (since_condition c.0.condition) (since_args c.0.args) z.1 in
    both (in_steps_optional c.0.condition) (in_steps_args c.0.args) (first_condition_is_in_steps c.0.condition y.0) (first_args_are_in_steps c.0.args y.1)

pub first_is_in_steps : FirstIsInSteps
first_is_in_steps l h = each_early since_spaced in_steps_spaced spaced_early l.commands h

-- what is of the profile, so that its language need not be counted from where functions are called in it
pub profile_forms_are_in_steps : (a : ArgTree) → since_forms a ≡ 0 → in_steps_arg a ≡ true
profile_forms_are_in_steps a h = arg_steps a (profile_forms_have_no_call a h)

pub profile_condition_is_in_steps : (c : Option ExprTree) → since_optional since_expr c ≡ 0 → in_steps_optional c ≡ true
profile_condition_is_in_steps c h = optional_steps c (profile_condition_has_no_call c h)
