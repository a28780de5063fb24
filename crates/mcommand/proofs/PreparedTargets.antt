-- SPDX-License-Identifier: Apache-2.0
-- Targets that no tree need hold: the function that a word of theirs names, and the names that they own.
use Rattle.mcommand.proofs.CommandWords.{◌≡◌, ◌++◌, Bool, true, false, List, [], ◌∷◌, map, Option, Some, refl, ap, ◌∙◌, subst, Text, Act, Evaluated}
use Rattle.mcommand.proofs.CommandWords.{Prepared, prepared_view}
use Rattle.std.specs.Prelude.{if◌then◌else◌, unwrap_or}
use Rattle.mgrammar.specs.Grammar.{is_either}
use Rattle.mgrammar.specs.Functions.{ValueFunctionTree, ascii_function, char_function, extract_function, find_function, format_number_function}
use Rattle.mgrammar.specs.Functions.{justify_function, length_function, name_length_function, name_subscript_function, piece_function}
use Rattle.mgrammar.specs.Functions.{reverse_function, translate_function, FunctionTree, of_values}
use Rattle.mgrammar.specs.Functions.{of_variable, of_choices, FunctionRow, function_rows, row_named, function_of}
use Rattle.mtree.specs.Functions.{IsValueWord}
use Rattle.mmeaning.specs.LineMeaning as meaning
use Rattle.mcommand.specs.Prepared.{row_of}

-- ---- the row of a function

-- a function of values is as its row has it
abbrev IsAsRow : FunctionTree → Type 0
IsAsRow (of_values f least most) = of_values f least most ≡ row_of f
IsAsRow (of_variable f most) = Unit {0}
IsAsRow of_choices = Unit {0}

abbrev AreAsRows : List FunctionRow → Type 0
AreAsRows [] = Unit {0}
AreAsRows (r ∷ rs) = IsAsRow r.function × AreAsRows rs

picked : (b : Bool) (w : Text) (r : FunctionRow) (rs : List FunctionRow) (t : FunctionTree) → IsAsRow r.function → (row_named w rs ≡ Some t → IsAsRow t)
    → (if b then Some r.function else row_named w rs) ≡ Some t → IsAsRow t
picked true w r rs t here rest e = subst IsAsRow (ap (λ (o : Option FunctionTree). unwrap_or o t) e) here
picked false w r rs t here rest e = rest e

found_row : (w : Text) (rs : List FunctionRow) (t : FunctionTree) → AreAsRows rs → row_named w rs ≡ Some t → IsAsRow t
found_row w [] t h e = absurd cc
found_row w (r ∷ rs) t h e = picked (is_either r.short r.whole w) w r rs t h.0 (found_row w rs t h.1) e

all_rows : AreAsRows function_rows
all_rows = (refl, (refl, (tt, (refl, (refl, (refl, (tt, (tt, (refl, (refl, (tt, (tt, (refl, (tt, (refl, (refl, (refl, (tt, (refl, tt)))))))))))))))))))

named_row : (w : Text) (t : FunctionTree) → function_of w ≡ Some t → IsAsRow t
unfolding function_of
named_row w t e = found_row w function_rows t all_rows e

-- what a word names, by its function alone
pub row_is : (w : Text) (f : ValueFunctionTree) → IsValueWord w f → function_of w ≡ Some (row_of f)
row_is w f is = is.2 ∙ ap (λ (t : FunctionTree). Some t) (named_row w (of_values f is.0 is.1) is.2)

pub row_assigned : (x : Text) (f : ValueFunctionTree) (v : Evaluated) (xs : List Text)
    → ◌≡◌ {A = Act (Unit {0})} (meaning.named_part x (Some (row_of f)) v xs) (meaning.part_assigned x f v xs)
row_assigned x ascii_function v xs = refl
row_assigned x char_function v xs = refl
row_assigned x extract_function v xs = refl
row_assigned x find_function v xs = refl
row_assigned x format_number_function v xs = refl
row_assigned x justify_function v xs = refl
row_assigned x length_function v xs = refl
row_assigned x name_length_function v xs = refl
row_assigned x name_subscript_function v xs = refl
row_assigned x piece_function v xs = refl
row_assigned x reverse_function v xs = refl
row_assigned x translate_function v xs = refl

-- ---- names that are owned

-- one more of them
pub own_pushed : (own : List Prepared) (lent one : Prepared) (left : List Prepared) → prepared_view one ≡ prepared_view lent
    → map prepared_view (own ++ one ∷ []) ++ map prepared_view left ≡ map prepared_view own ++ map prepared_view (lent ∷ left)
own_pushed [] lent one left same = ap (λ v. v ∷ map prepared_view left) same
own_pushed (p ∷ own) lent one left same = ap (λ vs. prepared_view p ∷ vs) (own_pushed own lent one left same)
