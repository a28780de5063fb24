-- SPDX-License-Identifier: Apache-2.0
-- Names of nodes as texts, taken apart and put together.
--
-- Restates "namevalue" of "$NAME", "$QLENGTH" and "$QSUBSCRIPT" of ISO/IEC 11756:1999: the name of a variable, of a global after a `^` and an
-- environment between bars or none, with subscripts in brackets or none. An environment is a string; a subscript is a string, or the
-- canonical text of a number.
use Rattle.std.specs.Prelude.{ℕ, ◌||◌, ◌==◌, Bool, false, if◌then◌else◌, List, [], ◌∷◌, ◌++◌, Option, Some, None, is_some}
use Rattle.mspec.specs.Number.{significant_digits}
use Rattle.mspec.specs.NodeOrder.{canonical_value}
use Rattle.mgrammar.specs.Grammar.{spell_string}
use Rattle.mgrammar.specs.ReadingWords.{Read, ◌>>=◌, run_of, after_run, name_at, text_from, past, list_at, is_digit_or_point}

-- the environment, which is empty if none is written; the name, with its `^`; the subscripts
pub record NameValue : Type 0 where
  pub environment : List ℕ
  pub name : List ℕ
  pub subscripts : List (List ℕ)

-- ---- subscripts

-- whether a subscript is written as a number
abbrev pub is_number_text : List ℕ → Bool
is_number_text s = is_some (canonical_value significant_digits s)

-- a character of the canonical text of a number
abbrev pub is_number_part : ℕ → Bool
is_number_part c = is_digit_or_point c || c == 45

abbrev pub canonical_by : List ℕ → List ℕ → Read (List ℕ)
canonical_by number cs = if is_number_text number then Some (number, cs) else None

abbrev pub subscript_by : Option (List ℕ) → List ℕ → Read (List ℕ)
subscript_by None cs = canonical_by (run_of is_number_part cs) (after_run is_number_part cs)
subscript_by (Some quoted) cs = text_from false quoted

unfoldable pub name_subscript_at : List ℕ → Read (List ℕ)
name_subscript_at cs = subscript_by (past 34 cs) cs

abbrev pub subscripts_by : Option (List ℕ) → List ℕ → Read (List (List ℕ))
subscripts_by None cs = Some ([], cs)
subscripts_by (Some inside) cs = list_at name_subscript_at inside >>= λ xs. past 41 xs.1 >>= λ rest. Some (xs.0, rest)

-- those of a name that ends where the text begins
unfoldable pub name_subscripts_at : List ℕ → Read (List (List ℕ))
name_subscripts_at cs = subscripts_by (past 40 cs) cs

-- ---- names

abbrev pub environment_by : Option (List ℕ) → List ℕ → Read (List ℕ)
environment_by None cs = Some ([], cs)
environment_by (Some inside) cs = past 34 inside >>= λ quoted. text_from false quoted >>= λ e. past 124 e.1 >>= λ rest. Some (e.0, rest)

-- an environment between bars, or none
unfoldable pub environment_at : List ℕ → Read (List ℕ)
environment_at cs = environment_by (past 124 cs) cs

-- what was read, if nothing follows
abbrev pub whole_by : NameValue → List ℕ → Option NameValue
whole_by v [] = Some v
whole_by v (c ∷ cs) = None

-- the whole text from the name on
unfoldable pub value_after : List ℕ → List ℕ → List ℕ → Option NameValue
value_after environment front cs =
    name_at cs >>= λ n. name_subscripts_at n.1
    >>= λ xs. whole_by (record { environment = environment; name = front ++ n.0; subscripts = xs.0 }) xs.1

-- after a `^`, if there is one
abbrev pub value_by : Option (List ℕ) → List ℕ → Option NameValue
value_by None cs = value_after [] [] cs
value_by (Some global) cs = environment_at global >>= λ e. value_after e.0 (94 ∷ []) e.1

-- the parts of the name that a text is
unfoldable pub name_value_of : List ℕ → Option NameValue
name_value_of cs = value_by (past 94 cs) cs

-- ---- names put together

abbrev pub subscript_text : List ℕ → List ℕ
subscript_text s = if is_number_text s then s else spell_string s

-- subscripts after one, with a comma before each, and the bracket after them
abbrev pub more_subscripts : List (List ℕ) → List ℕ
more_subscripts [] = 41 ∷ []
more_subscripts (x ∷ xs) = 44 ∷ (subscript_text x ++ more_subscripts xs)

abbrev pub subscripts_text : List (List ℕ) → List ℕ
subscripts_text [] = []
subscripts_text (x ∷ xs) = 40 ∷ (subscript_text x ++ more_subscripts xs)

-- the name of a global, with its environment if it has one
abbrev pub global_text : Option (List ℕ) → List ℕ → List ℕ
global_text None name = 94 ∷ name
global_text (Some environment) name = 94 ∷ 124 ∷ (spell_string environment ++ (124 ∷ name))
