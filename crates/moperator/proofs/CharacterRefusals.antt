-- SPDX-License-Identifier: Apache-2.0
-- What $CHAR is refused for, of codes that are read one after another.
use Rattle.moperator.proofs.OperatorWords.{◌≡◌, ◌<◌, ◌≤◌, ℕ, Bool, true, false, List, [], ◌∷◌, ◌++◌, length, Ok, Err, refl, ap, ◌∙◌, arith, pos, negsuc, ◌||◌}
use Rattle.moperator.proofs.OperatorWords.{nat_le, list_any, flat_map, nat_tests, Text, char_of, character_of, is_over_ascii, max_text, char_function, wholes}
use Rattle.moperator.proofs.OperatorWords.{function_value, outcome, Yields, YieldsFault, yields_then, yields_failed, yields_gives, fault_of, IsDone, Code}
use Rattle.std.proofs.Common.{◌+◌, length-append}
use Rattle.std.specs.Prelude.{ℤ}
use Rattle.std.proofs.lemmas.List.Folds.{list_any-append}
use Rattle.std.proofs.lemmas.Grind.{flat_map-append}
use Rattle.mspec.specs.Code as spec
use Rattle.moperator.specs.declared.code.Code.TheVariants as code

-- ---- one code more

pub over_more : (ns : List ℤ) (n : ℤ) (b : Bool) → list_any is_over_ascii ns ≡ b → list_any is_over_ascii (ns ++ n ∷ []) ≡ (b || is_over_ascii n)
over_more ns n b e =
    list_any-append is_over_ascii ns (n ∷ [])
    ∙ ap (λ (b : Bool). b || (is_over_ascii n || false)) e
    ∙ elim (is_over_ascii n) as (λ (x : Bool). (b || (x || false)) ≡ (b || x)) [ true ↦ refl | false ↦ refl ]

pub count_more : (ns : List ℤ) (n : ℤ) (k : ℕ) → length (flat_map character_of ns) ≡ k → length (flat_map character_of (ns ++ n ∷ [])) ≡ k + length (character_of n)
count_more ns n k e =
    let one : length (flat_map character_of (n ∷ [])) ≡ length (character_of n) = length-append (character_of n) [] ∙ omega arith in
    let whole = ap length (flat_map-append character_of ns (n ∷ [])) ∙ length-append (flat_map character_of ns) (flat_map character_of (n ∷ [])) in
    omega (arith, one, whole, e)

pub at_most_one : (n : ℤ) → length (character_of n) ≤ 1
at_most_one (pos n) = omega arith
at_most_one (negsuc n) = omega arith

-- ---- what the codes lead to

over_refused : (ns : List ℤ) → list_any is_over_ascii ns ≡ true → char_of ns ≡ Err spec.Zchar
over_refused ns e = rw e refl

long_refused : (ns : List ℤ) → list_any is_over_ascii ns ≡ false → max_text < length (flat_map character_of ns) → char_of ns ≡ Err spec.Zlong
long_refused ns e long =
    let test : nat_le (length (flat_map character_of ns)) max_text ≡ false = grind (arith, nat_tests) in
    rw (e, test) refl

short_allowed : (ns : List ℤ) → list_any is_over_ascii ns ≡ false → length (flat_map character_of ns) ≤ max_text → char_of ns ≡ Ok (flat_map character_of ns)
short_allowed ns e short =
    let test : nat_le (length (flat_map character_of ns)) max_text ≡ true = grind (arith, nat_tests) in
    rw (e, test) refl

-- a refusal of the codes is one of the function
refused_by : (args : List Text) (ns : List ℤ) (given : Code) (c : spec.Code) → Yields fault_of (wholes [] args) (λ (w : List ℤ). w) (Ok ns) → char_of ns ≡ Err c → fault_of given ≡ spec.Own c
    → YieldsFault (function_value char_function args) (fault_of given)
refused_by args ns given c read refused is =
    let fails : YieldsFault (outcome (char_of ns)) (fault_of given) = rw (refused, is) (λ s. refl) in
    (yields_then (λ ns. outcome (char_of ns)) {f = λ (w : List ℤ). w} {g = λ (v : Text). v} {r = Err given} read (record { ends = fails })).ends

pub over_is_refused : (args : List Text) (ns : List ℤ) → Yields fault_of (wholes [] args) (λ (w : List ℤ). w) (Ok ns) → list_any is_over_ascii ns ≡ true
    → YieldsFault (function_value char_function args) (fault_of code.Zchar)
over_is_refused args ns read e = refused_by args ns code.Zchar spec.Zchar read (over_refused ns e) refl

pub long_is_refused : (args : List Text) (ns : List ℤ) → Yields fault_of (wholes [] args) (λ (w : List ℤ). w) (Ok ns) → list_any is_over_ascii ns ≡ false → max_text < length (flat_map character_of ns)
    → YieldsFault (function_value char_function args) (fault_of code.Zlong)
long_is_refused args ns read e long = refused_by args ns code.Zlong spec.Zlong read (long_refused ns e long) refl

pub argument_is_refused : (args : List Text) (given : Code) → Yields fault_of (wholes [] args) (λ (w : List ℤ). w) (Err given) → YieldsFault (function_value char_function args) (fault_of given)
argument_is_refused args given read = (yields_failed {Y = Text} (λ ns. outcome (char_of ns)) {g = λ (v : Text). v} read).ends

pub short_is_allowed : (args : List Text) (ns : List ℤ) → Yields fault_of (wholes [] args) (λ (w : List ℤ). w) (Ok ns) → list_any is_over_ascii ns ≡ false → length (flat_map character_of ns) ≤ max_text
    → IsDone (function_value char_function args)
short_is_allowed args ns read e short =
    let text = flat_map character_of ns in
    let gives : Yields {E = Code} fault_of (outcome (char_of ns)) (λ (v : Text). v) (Ok text) = rw (short_allowed ns e short) (yields_gives text (λ (v : Text). v) text refl) in
    (text, (yields_then (λ ns. outcome (char_of ns)) read gives).ends)
