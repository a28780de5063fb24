-- SPDX-License-Identifier: Apache-2.0
-- Kinds of characters.
use Rattle.std.specs.Prelude.{ℕ, Bool}
use Rattle.mspec.specs.Names.{is_letter, is_name_start, is_name_rest, is_character}
use Rattle.mgrammar.specs.Grammar.{is_pattern_letter, is_format}
use Rattle.mspec.specs.Literal.{is_digit}
use Rattle.mgrammar.specs.Reading.{is_space}
use Rattle.mgrammar.specs.ReadingWords.{is_digit_or_point}
use Rattle.mgrammar.specs.NameValues.{is_number_part}
use Rattle.mscan.specs.declared.runs.Class.{Class}
use Rattle.mscan.specs.declared.runs.Class.TheVariants as class

abbrev pub in_class : Class → ℕ → Bool
in_class class.Digit = is_digit
in_class class.Letter = is_letter
in_class class.NameStart = is_name_start
in_class class.NameRest = is_name_rest
in_class class.Space = is_space
in_class class.Format = is_format
in_class class.PatternLetter = is_pattern_letter
in_class class.DigitOrPoint = is_digit_or_point
in_class class.NumberPart = is_number_part
in_class class.Any = is_character
