-- SPDX-License-Identifier: Apache-2.0
use Rattle.mcommand.proofs.CommandLaws.{◌≡◌, Some, Text, option_map, refl, give, last_turn, course_view, does_then, does_stopped, does_gives}
use Rattle.mcommand.proofs.CommandLaws.{does_evaluated, does_is, does_yielded, Option}
use Rattle.mspec.specs.Act.{Act, fail}
use Rattle.mspec.specs.Code.{Zsyntax}
use Rattle.mmeaning.specs.Courses.{Course}
use Rattle.mmeaning.specs.Programs.{looped}
use Rattle.mcommand.specs.Steps.{item_view}
use Rattle.mcommand.specs.declared.items.Item.{Item}
use Rattle.mcommand.specs.declared.items.Item.TheVariants as item
use Rattle.mcommand.proofs.parts.Parts.begin_course.Goals as goal

-- what is neither a value nor numbers
other_item : (index : Text) (i : Item) → ((v : _) → i ≡ item.Value v → ⊥) → ((ns : _) → i ≡ item.Numbers ns → ⊥)
    → ◌≡◌ {A = Act (Option Course)} (looped index (item_view i)) (fail Zsyntax)
other_item index (item.Value v) value numbers = absurd (value v refl)
other_item index (item.Numbers ns) value numbers = absurd (numbers ns refl)
other_item index i value numbers = refl

pub returns-in_err-set_variable-in-Value : goal.returns-in_err-set_variable-in-Value
returns-in_err-set_variable-in-Value g c =
    rw c.in-Value.is (does_stopped (λ i _. give (Some last_turn)) (does_evaluated c.in_err-set_variable-in-Value.ensures) c.from_residual.ensures)

pub returns-in-Value : goal.returns-in-Value
returns-in-Value g c =
    rw c.in-Value.is
    (does_then (λ i _. give (Some last_turn)) (does_evaluated c.in_ok-set_variable-in-Value.ensures)
    (does_gives (Some last_turn) (option_map course_view) _ refl))

pub returns-in-Numbers : goal.returns-in-Numbers
returns-in-Numbers g c =
    let does = rw c.deref.ensures.value at c.begin_numbers.ensures in
    rw c.in-Numbers.is does

pub returns : goal.returns
returns g c =
    does_is (λ i. other_item c.args.index.now c.args.left c.in_default.not-Value c.in_default.not-Numbers) (does_yielded (record { ends = λ s. refl }))
