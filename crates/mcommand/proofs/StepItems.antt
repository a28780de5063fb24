-- SPDX-License-Identifier: Apache-2.0
-- What is on top of a program's stack.
use Rattle.mcommand.proofs.CommandWords.{◌≡◌, ◌≤◌, ◌++◌, List, [], ◌∷◌, Option, Some, length, Ok, Err, refl, ap, ◌∙◌, Act, give, Yields, fault_of}
use Rattle.mcommand.proofs.CommandWords.{none_left}
use Rattle.std.specs.Option.{option_to_list}
use Rattle.mspec.specs.Act.{fail}
use Rattle.mspec.specs.Code.{Zsyntax}
use Rattle.mmeaning.specs.Programs as programs
use Rattle.moperator.specs.declared.code.Code.TheVariants as code
use Rattle.mcommand.specs.Steps.{item_view, items_on, items_view}
use Rattle.mcommand.specs.declared.items.Item.{Item}

pushed_on : (below : List programs.Item) (is : List Item) (i : Item) → items_on below (is ++ i ∷ []) ≡ item_view i ∷ items_on below is
pushed_on below [] i = refl
pushed_on below (x ∷ is) i = pushed_on (item_view x ∷ below) is i

-- the last item pushed is on top
pub item_on : (is : List Item) (i : Item) → items_view (is ++ i ∷ []) ≡ item_view i ∷ items_view is
item_on is i = pushed_on [] is i

-- and comes off first
came_off : (old new : List Item) (r : Option Item) (i j : Item) → old ≡ new ++ option_to_list r → r ≡ Some i → i ≡ j
    → items_view old ≡ item_view j ∷ items_view new
came_off old new r i j e some is =
    ap items_view (e ∙ ap (λ (r : Option Item). new ++ option_to_list r) (some ∙ ap Some is)) ∙ item_on new j

-- what takes an item of one kind off, and refuses all others
module _ {A : Type 0} (top : List programs.Item → Act (A × List programs.Item)) {X : Type 0} {f : X → A × List programs.Item} where
  pub taken : {x : X} (old new : List Item) (r : Option Item) (i j : Item) → old ≡ new ++ option_to_list r → r ≡ Some i → i ≡ j
      → ◌≡◌ {A = Act (A × List programs.Item)} (top (item_view j ∷ items_view new)) (give (f x)) → Yields fault_of (top (items_view old)) f (Ok x)
  taken {x = x} old new r i j e some is gives =
      let there = ap top (came_off old new r i j e some is) ∙ gives in
      record { ends = λ s. ap (λ (p : Act (A × List programs.Item)). p s) there }

  pub refused : (old new : List Item) (r : Option Item) (i j : Item) → old ≡ new ++ option_to_list r → r ≡ Some i → i ≡ j
      → ◌≡◌ {A = Act (A × List programs.Item)} (top (item_view j ∷ items_view new)) (fail Zsyntax)
      → Yields fault_of (top (items_view old)) f (Err code.Zsyntax)
  refused old new r i j e some is fails =
      let there = ap top (came_off old new r i j e some is) ∙ fails in
      record { ends = λ s. ap (λ (p : Act (A × List programs.Item)). p s) there }

  pub missing : (old : List Item) → length old ≤ 0 → ◌≡◌ {A = Act (A × List programs.Item)} (top []) (fail Zsyntax)
      → Yields fault_of (top (items_view old)) f (Err code.Zsyntax)
  missing old few fails =
      let there = ap top (ap items_view (none_left 0 old few)) ∙ fails in
      record { ends = λ s. ap (λ (p : Act (A × List programs.Item)). p s) there }
