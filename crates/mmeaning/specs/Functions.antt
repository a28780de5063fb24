-- SPDX-License-Identifier: Apache-2.0
-- What functions give for the values of their arguments, except for $SELECT and the functions of a variable.
--
-- Restates "Intrinsic functions" of ISO/IEC 11756:1999. All arguments are evaluated before the first of them becomes a
-- number. Then each that is to be a whole number becomes one, from left to right, even if it plays no part.
use Rattle.std.specs.Prelude.{ℕ, zero, suc, ◌^◌, ℤ, pos, negsuc, ◌*ℤ◌, List, [], ◌∷◌, ◌++◌, length, get_or, slice_get, Option, Some, None, unwrap_or}
use Rattle.mspec.specs.NumberText.{number_text}
use Rattle.mspec.specs.Interpretations.{whole_part}
use Rattle.mspec.specs.TextFunctions.{piece_of, extract_of, find_of, piece_count, reverse_of, translate_of, justify_of}
use Rattle.mspec.specs.NumberFormats.{format_number, justify_number}
use Rattle.mspec.specs.CharacterFunctions.{ascii_of, char_of}
use Rattle.mgrammar.specs.Functions.{ValueFunctionTree, ascii_function, char_function, extract_function, find_function, format_number_function}
use Rattle.mgrammar.specs.Functions.{justify_function, length_function, name_length_function, name_subscript_function, piece_function}
use Rattle.mgrammar.specs.Functions.{reverse_function, translate_function, FunctionTree, of_values, of_variable, of_choices, function_of}
use Rattle.mgrammar.specs.NameValues.{NameValue, name_value_of}
use Rattle.mspec.specs.Code.{M90, Zarg, Zsyntax}
use Rattle.mspec.specs.Act.{Text, Act, ◌>>=◌, give, give_some, fail}
use Rattle.mmeaning.specs.Operators.{as_number, outcome}

-- ---- arguments

-- the argument at a place; the empty text if it is left out
abbrev pub text_at : ℕ → List Text → Text
text_at k args = get_or args k []

-- the value without its fraction
abbrev pub as_whole : Text → Act ℤ
as_whole x = do
  n ← as_number x
  give (whole_part n)

abbrev pub as_whole_or_none : Option Text → Act (Option ℤ)
as_whole_or_none None = give None
as_whole_or_none (Some x) = do
  n ← as_whole x
  give (Some n)

-- the argument at a place as a whole number; none if it is left out
abbrev pub whole_at : ℕ → List Text → Act (Option ℤ)
whole_at k args = as_whole_or_none (slice_get args k)

-- the arguments as whole numbers, appended to those before them
abbrev pub wholes : List ℤ → List Text → Act (List ℤ)
wholes ns [] = give ns
wholes ns (x ∷ xs) = do
  n ← as_whole x
  wholes (ns ++ n ∷ []) xs

-- ---- values; those of functions of a variable are elsewhere, as is that of $SELECT

-- a whole number as its text
abbrev pub whole_text : ℤ → Text
whole_text n = number_text (n *ℤ pos (10 ^ 18))

-- $LENGTH: in characters, or in pieces if there is a delimiter
abbrev pub length_of : Text → Option Text → ℕ
length_of s None = length s
length_of s (Some d) = piece_count s d

-- $JUSTIFY: a text, or a number with this many places if there is a third argument
abbrev pub justified : List Text → Option Text → Act Text
justified args None = do
  width ← whole_at 1 args
  outcome (justify_of (text_at 0 args) (unwrap_or width (pos 0)))
justified args (Some x) = do
  number ← as_number (text_at 0 args)
  width ← whole_at 1 args
  places ← as_whole x
  outcome (justify_number number (unwrap_or width (pos 0)) places)

-- $FNUMBER: a number in a format, with this many places if there is a third argument
abbrev pub number_formatted : List Text → Option Text → Act Text
number_formatted args None = do
  number ← as_number (text_at 0 args)
  outcome (format_number number (text_at 1 args) None)
number_formatted args (Some x) = do
  number ← as_number (text_at 0 args)
  places ← as_whole x
  outcome (format_number number (text_at 1 args) (Some places))

-- the parts of the name that a text is
abbrev pub name_parts : Text → Act NameValue
name_parts s = give_some M90 (name_value_of s)

-- which part of a name is meant: -1 is its environment and 0 its name; then its subscripts come
abbrev pub part_place : ℤ → Option ℕ
part_place (pos n) = Some (suc n)
part_place (negsuc zero) = Some 0
part_place (negsuc (suc n)) = None

-- $QSUBSCRIPT: that part, or the empty text if the name has fewer subscripts
abbrev pub name_part : Text → ℤ → Act Text
name_part s n = do
  place ← give_some Zarg (part_place n)
  parts ← name_parts s
  give (get_or (parts.environment ∷ parts.name ∷ parts.subscripts) place [])

abbrev pub function_value : ValueFunctionTree → List Text → Act Text
function_value ascii_function args = do
  place ← whole_at 1 args
  give (whole_text (ascii_of (text_at 0 args) place))
function_value char_function args = do
  ns ← wholes [] args
  outcome (char_of ns)
function_value extract_function args = do
  from ← whole_at 1 args
  to ← whole_at 2 args
  give (extract_of (text_at 0 args) from to)
function_value find_function args = do
  from ← whole_at 2 args
  give (whole_text (pos (find_of (text_at 0 args) (text_at 1 args) from)))
function_value format_number_function args = number_formatted args (slice_get args 2)
function_value justify_function args = justified args (slice_get args 2)
function_value length_function args = give (whole_text (pos (length_of (text_at 0 args) (slice_get args 1))))
function_value name_length_function args = do
  parts ← name_parts (text_at 0 args)
  give (whole_text (pos (length parts.subscripts)))
function_value name_subscript_function args = do
  place ← whole_at 1 args
  name_part (text_at 0 args) (unwrap_or place (pos 0))
function_value piece_function args = do
  from ← whole_at 2 args
  to ← whole_at 3 args
  give (piece_of (text_at 0 args) (text_at 1 args) from to)
function_value reverse_function args = give (reverse_of (text_at 0 args))
function_value translate_function args = outcome (translate_of (text_at 0 args) (text_at 1 args) (text_at 2 args))

-- a word that names no function of values is in no tree of the grammar with values alone
abbrev pub named_value : Option FunctionTree → List Text → Act Text
named_value None args = fail Zsyntax
named_value (Some (of_values f least most)) args = function_value f args
named_value (Some (of_variable f most)) args = fail Zsyntax
named_value (Some of_choices) args = fail Zsyntax

abbrev pub call_value : Text → List Text → Act Text
call_value word args = named_value (function_of word) args
