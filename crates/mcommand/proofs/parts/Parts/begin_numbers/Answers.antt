-- SPDX-License-Identifier: Apache-2.0
use Rattle.mcommand.proofs.CommandLaws.{◌≡◌, ◌≤◌, List, [], ◌∷◌, Some, Text, Num, Option, option_map, arith, refl, sym, ap, map, length}
use Rattle.mcommand.proofs.CommandWords.{◌<◌, get_or}
use Rattle.mcommand.proofs.CommandLaws.{give, endless, units, course_view, does_then, does_stopped, does_gives, does_evaluated, does_is, does_yielded}
use Rattle.mspec.specs.Act.{Act, fail}
use Rattle.mspec.specs.Code.{Zsyntax}
use Rattle.mmeaning.specs.Courses.{Course}
use Rattle.mmeaning.specs.Programs.{begun_within, looped, some_numbers}
use Rattle.mcommand.proofs.parts.Parts.begin_numbers.Goals as goal

two_numbers : (ns : List Num) (a by : Num) → 2 ≤ length ns → length ns < 3 → a ≡ get_or ns 0 a → by ≡ get_or ns 1 by → ns ≡ a ∷ by ∷ []
two_numbers [] a by least below first second = absurd (omega (arith, least))
two_numbers (x ∷ []) a by least below first second = absurd (omega (arith, least))
two_numbers (x ∷ y ∷ []) a by least below first second = λ i. sym first i ∷ sym second i ∷ []
two_numbers (x ∷ y ∷ z ∷ ns) a by least below first second = absurd (omega (arith, below))

three_numbers : (ns : List Num) (a by limit : Num) → 3 ≤ length ns → length ns < 4 → a ≡ get_or ns 0 a → by ≡ get_or ns 1 by
    → limit ≡ get_or ns 2 limit → ns ≡ a ∷ by ∷ limit ∷ []
three_numbers [] a by limit least below first second third = absurd (omega (arith, least))
three_numbers (x ∷ []) a by limit least below first second third = absurd (omega (arith, least))
three_numbers (x ∷ y ∷ []) a by limit least below first second third = absurd (omega (arith, least))
three_numbers (x ∷ y ∷ z ∷ []) a by limit least below first second third = λ i. sym first i ∷ sym second i ∷ sym third i ∷ []
three_numbers (x ∷ y ∷ z ∷ w ∷ ns) a by limit least below first second third = absurd (omega (arith, below))

-- what the index begins with
abbrev begins : Text → List Num → Act (Option Course)
begins index ns = looped index (some_numbers (map units ns))

too_few : (index : Text) (ns : List Num) → length ns < 2 → ◌≡◌ {A = Act (Option Course)} (begins index ns) (fail Zsyntax)
too_few index [] few = refl
too_few index (x ∷ []) few = refl
too_few index (x ∷ y ∷ ns) few = absurd (omega (arith, few))

too_many : (index : Text) (ns : List Num) → 4 ≤ length ns → ◌≡◌ {A = Act (Option Course)} (begins index ns) (fail Zsyntax)
too_many index [] many = refl
too_many index (x ∷ []) many = refl
too_many index (x ∷ y ∷ []) many = absurd (omega (arith, many))
too_many index (x ∷ y ∷ z ∷ []) many = absurd (omega (arith, many))
too_many index (x ∷ y ∷ z ∷ w ∷ ns) many = refl

pub returns-in_err-set_variable-in-len2 : goal.returns-in_err-set_variable-in-len2
returns-in_err-set_variable-in-len2 g c =
    let two = two_numbers c.args.numbers.now c.start-item.result c.by-item.result c.in-len2.len_at_least c.in-len2.len_below c.start-item.is c.by-item.is in
    let set = rw c.of_number.ensures at c.in_err-set_variable-in-len2.ensures in
    does_is (λ i. ap (begins c.args.index.now) two)
    (does_stopped (λ i _. give (Some (endless (units c.by-item.result)))) (does_evaluated set) c.from_residual.ensures)

pub returns-in_ok-set_variable-in-len2 : goal.returns-in_ok-set_variable-in-len2
returns-in_ok-set_variable-in-len2 g c =
    let two = two_numbers c.args.numbers.now c.start-item.result c.by-item.result c.in-len2.len_at_least c.in-len2.len_below c.start-item.is c.by-item.is in
    let set = rw c.of_number.ensures at c.in_ok-set_variable-in-len2.ensures in
    let course = Some (endless (units c.by-item.result)) in
    does_is (λ i. ap (begins c.args.index.now) two)
    (does_then (λ i _. give course) (does_evaluated set) (does_gives course (option_map course_view) _ refl))

pub returns-in_err-set_variable-in-len3 : goal.returns-in_err-set_variable-in-len3
returns-in_err-set_variable-in-len3 g c =
    let start = c.start-item-then-numbers-lt4 in
    let by = c.by-item-then-numbers-lt4 in
    let limit = c.limit-item in
    let few = c.in-len3 in
    let three =
    three_numbers c.args.numbers.now start.result by.result limit.result few.len_at_least few.len_below start.is by.is limit.is in
    let set = rw c.of_number-in-len3.ensures at c.in_err-set_variable-in-len3.ensures in
    let begun = begun_within (units start.result) (units by.result) (units limit.result) in
    does_is (λ i. ap (begins c.args.index.now) three)
    (does_stopped (λ i _. give begun) (does_evaluated set) c.from_residual-in_err-set_variable-in-len3.ensures)

pub returns-in_ok-set_variable-in-len3 : goal.returns-in_ok-set_variable-in-len3
returns-in_ok-set_variable-in-len3 g c =
    let start = c.start-item-then-numbers-lt4 in
    let by = c.by-item-then-numbers-lt4 in
    let limit = c.limit-item in
    let few = c.in-len3 in
    let three =
    three_numbers c.args.numbers.now start.result by.result limit.result few.len_at_least few.len_below start.is by.is limit.is in
    let set = rw c.of_number-in-len3.ensures at c.in_ok-set_variable-in-len3.ensures in
    let begun = begun_within (units start.result) (units by.result) (units limit.result) in
    does_is (λ i. ap (begins c.args.index.now) three)
    (does_then (λ i _. give begun) (does_evaluated set) (does_gives begun (option_map course_view) _ c.course_within.ensures))

pub returns-in_default : goal.returns-in_default
returns-in_default g c = does_is (λ i. too_few c.args.index.now c.args.numbers.now c.in_default.len_below) (does_yielded (record { ends = λ s. refl }))

pub returns-in_default-2 : goal.returns-in_default-2
returns-in_default-2 g c =
    does_is (λ i. too_many c.args.index.now c.args.numbers.now c.in_default.len_at_least) (does_yielded (record { ends = λ s. refl }))
