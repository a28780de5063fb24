-- SPDX-License-Identifier: Apache-2.0
-- How many steps a part of a tree has, by the search for a step that is past it.
use Rattle.std.proofs.Common.{◌≡◌, ◌+◌, ◌-◌, ◌^◌, ◌≤◌, ◌<◌, ℕ, zero, suc, List, [], ◌∷◌, ◌++◌, length, Option, Some, None}
use Rattle.std.proofs.Common.{refl, sym, ap, ◌∙◌, arith, length-append}
use Rattle.std.specs.Prelude.{slice_get}
use Rattle.std.proofs.lemmas.Option.{slice_get_within}
use Rattle.mgrammar.specs.Grammar.{ExprTree, ChoicesTree}
use Rattle.mmeaning.specs.Programs.{Op, Spend, of_value, of_choices}
use Rattle.mmeaning.proofs.ProgramParts.{Behind, value_behind, choices_behind}
use Rattle.mprogram.specs.Found.{FoundTree, step, past, found_before, in_value, in_choices}
use Rattle.mprogram.proofs.Finding.{Finds, value_finds, choices_find}

-- this many steps, whatever they are
several : ℕ → List Op
several zero = []
several (suc n) = Spend ∷ several n

several_long : (n : ℕ) → length (several n) ≡ n
unfolding several
several_long zero = refl
several_long (suc n) = ap (λ k. suc k) (several_long n)

last_there : (n : ℕ) → slice_get (several (suc n)) n ≡ Some Spend
unfolding several
last_there zero = refl
last_there (suc n) = last_there n

none_behind : (n : ℕ) → slice_get (several n) n ≡ None
unfolding several
none_behind zero = refl
none_behind (suc n) = none_behind n

-- no item is there
beyond : (ops : List Op) (k : ℕ) → slice_get ops k ≡ None → length ops ≤ k
beyond [] k h = omega arith
beyond (o ∷ ops) zero h = absurd (let clash : ◌≡◌ {A = Option Op} (Some o) None = h in cc)
beyond (o ∷ ops) (suc k) h = let rest : length ops ≤ k = beyond ops k h in omega arith

-- a part that is past with this many left has the others
counted : (f : List Op → List Op) (p : ℕ → FoundTree) → Finds f p → Behind f → (at left : ℕ) → p at ≡ past left → at ≡ length (f []) + left
counted f p finds behind at left is =
    let found : (rest : List Op) → slice_get (f [] ++ rest) at ≡ slice_get rest left =
    λ rest. ap (λ ops. slice_get ops at) (sym (behind [] rest)) ∙ finds at rest ∙ ap (λ r. found_before r rest) is in
    let there : at < length (f [] ++ several (suc left)) = slice_get_within _ at Spend (found (several (suc left)) ∙ last_there left) in
    let gone : length (f [] ++ several left) ≤ at = beyond _ at (found (several left) ∙ none_behind left) in
    let one = length-append (f []) (several (suc left)) in
    let other = length-append (f []) (several left) in
    omega (arith, several_long left, several_long (suc left))

-- a part in which a step is found there has more
longer : (f : List Op → List Op) (p : ℕ → FoundTree) → Finds f p → (at : ℕ) (o : Op) → p at ≡ step o → at < length (f [])
longer f p finds at o is = slice_get_within _ at o (finds at [] ∙ ap (λ r. found_before r []) is)

-- the others, which are no more than that
pub others_counted : (at count left : ℕ) → at ≡ count + left → at < 2 ^ 64 → (count < 2 ^ 64) × (at - left ≡ count)
others_counted at count left is small = (omega (arith, is, small), omega (arith, is))

-- more than the machine's greatest number
pub too_many : (at count : ℕ) → at < count → 2 ^ 64 ≤ at + 1 → ¬ (count < 2 ^ 64)
too_many at count more great fits = omega (arith, more, great, fits)

pub value_counted : (e : ExprTree) (at left : ℕ) → in_value e at ≡ past left → at ≡ length (of_value e []) + left
value_counted e = counted (of_value e) (in_value e) (value_finds e) (value_behind e)

pub choices_counted : (s : ChoicesTree) (at left : ℕ) → in_choices s at ≡ past left → at ≡ length (of_choices s []) + left
choices_counted s = counted (of_choices s) (in_choices s) (choices_find s) (choices_behind s)

pub value_longer : (e : ExprTree) (at : ℕ) (o : Op) → in_value e at ≡ step o → at < length (of_value e [])
value_longer e = longer (of_value e) (in_value e) (value_finds e)

pub choices_longer : (s : ChoicesTree) (at : ℕ) (o : Op) → in_choices s at ≡ step o → at < length (of_choices s [])
choices_longer s = longer (of_choices s) (in_choices s) (choices_find s)
