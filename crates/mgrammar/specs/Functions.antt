-- SPDX-License-Identifier: Apache-2.0
-- The functions, one row each: the word, its abbreviation, what stands in its brackets, and the first language that has it.
--
-- Restates "Intrinsic functions" of ISO/IEC 11756:1999, of those that some language has.
use Rattle.std.specs.Prelude.{ℕ, Bool, true, false, ◌&&◌, nat_le, if◌then◌else◌, Option, Some, None, List, [], ◌∷◌, codes}
use Rattle.mgrammar.specs.Grammar.{is_at_most, is_either}

-- those of values
pub data ValueFunctionTree : Type 0 where
  ascii_function : ValueFunctionTree
  char_function : ValueFunctionTree
  extract_function : ValueFunctionTree
  find_function : ValueFunctionTree
  format_number_function : ValueFunctionTree
  justify_function : ValueFunctionTree
  length_function : ValueFunctionTree
  name_length_function : ValueFunctionTree
  name_subscript_function : ValueFunctionTree
  piece_function : ValueFunctionTree
  reverse_function : ValueFunctionTree
  translate_function : ValueFunctionTree

-- those of a variable
pub data VariableFunctionTree : Type 0 where
  data_function : VariableFunctionTree
  get_function : VariableFunctionTree
  increment_function : VariableFunctionTree
  name_function : VariableFunctionTree
  order_function : VariableFunctionTree
  query_function : VariableFunctionTree

-- what stands in the brackets: from this many values to that many, or without a bound; a variable, and up to this many values after it; or choices
pub data FunctionTree : Type 0 where
  of_values : ValueFunctionTree → ℕ → Option ℕ → FunctionTree
  of_variable : VariableFunctionTree → ℕ → FunctionTree
  of_choices : FunctionTree

pub record FunctionRow : Type 0 where
  pub short : List ℕ
  pub whole : List ℕ
  pub function : FunctionTree
  pub since : ℕ

abbrev pub row : List ℕ → List ℕ → FunctionTree → ℕ → FunctionRow
row short whole function since = record { short = short; whole = whole; function = function; since = since }

abbrev pub function_rows : List FunctionRow
function_rows =
    row (codes "a") (codes "ascii") (of_values ascii_function 1 (Some 2)) 0
    ∷ row (codes "c") (codes "char") (of_values char_function 1 None) 0
    ∷ row (codes "d") (codes "data") (of_variable data_function 0) 0
    ∷ row (codes "e") (codes "extract") (of_values extract_function 1 (Some 3)) 0
    ∷ row (codes "f") (codes "find") (of_values find_function 2 (Some 3)) 0
    ∷ row (codes "fn") (codes "fnumber") (of_values format_number_function 2 (Some 3)) 1
    ∷ row (codes "g") (codes "get") (of_variable get_function 1) 0
    ∷ row (codes "i") (codes "increment") (of_variable increment_function 1) 1
    ∷ row (codes "j") (codes "justify") (of_values justify_function 2 (Some 3)) 0
    ∷ row (codes "l") (codes "length") (of_values length_function 1 (Some 2)) 0
    ∷ row (codes "na") (codes "name") (of_variable name_function 1) 1
    ∷ row (codes "o") (codes "order") (of_variable order_function 1) 0
    ∷ row (codes "p") (codes "piece") (of_values piece_function 2 (Some 4)) 0
    ∷ row (codes "q") (codes "query") (of_variable query_function 1) 1
    ∷ row (codes "ql") (codes "qlength") (of_values name_length_function 1 (Some 1)) 1
    ∷ row (codes "qs") (codes "qsubscript") (of_values name_subscript_function 2 (Some 2)) 1
    ∷ row (codes "re") (codes "reverse") (of_values reverse_function 1 (Some 1)) 1
    ∷ row (codes "s") (codes "select") of_choices 0
    ∷ row (codes "tr") (codes "translate") (of_values translate_function 2 (Some 3)) 0
    ∷ []

abbrev pub row_named : List ℕ → List FunctionRow → Option FunctionTree
row_named w [] = None
row_named w (r ∷ rs) = if is_either r.short r.whole w then Some r.function else row_named w rs

-- the name of a `function`: the whole word or its abbreviation
unfoldable pub function_of : List ℕ → Option FunctionTree
function_of w = row_named w function_rows

-- the first language that has the function of a word; 0 if none has it
abbrev pub since_named : List ℕ → List FunctionRow → ℕ
since_named w [] = 0
since_named w (r ∷ rs) = if is_either r.short r.whole w then r.since else since_named w rs

unfoldable pub since_function : List ℕ → ℕ
since_function w = since_named w function_rows

-- the first language in which the function of a word takes this many values, if that is later: $JUSTIFY takes a third one
abbrev pub since_values : List ℕ → ℕ → ℕ
since_values w n = if is_either (codes "j") (codes "justify") w && nat_le 3 n then 1 else 0

-- whether n values may stand in brackets that take from `least` to `most`: at least one
abbrev pub takes : ℕ → Option ℕ → ℕ → Bool
takes least most n = nat_le 1 n && (nat_le least n && is_at_most most n)

-- a function whose call may be a target of SET, if its first value is a variable
abbrev pub is_part : ValueFunctionTree → Bool
is_part ascii_function = false
is_part char_function = false
is_part extract_function = true
is_part find_function = false
is_part format_number_function = false
is_part justify_function = false
is_part length_function = false
is_part name_length_function = false
is_part name_subscript_function = false
is_part piece_function = true
is_part reverse_function = false
is_part translate_function = false

-- the first language in which the call of a function that is one may be a target, with this many values after the variable
abbrev pub since_part : List ℕ → ℕ → ℕ
since_part w n = if is_either (codes "p") (codes "piece") w && nat_le n 2 then 0 else 1
