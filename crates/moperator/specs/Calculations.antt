-- SPDX-License-Identifier: Apache-2.0
-- The operators of arithmetic, and what they give of two numbers.
use Rattle.std.specs.Prelude.{ℤ, Option}
use Rattle.mspec.specs.Code.{M9}
use Rattle.mspec.specs.Act.{Text, Act, ◌>>=◌, ◌>>◌, unless}
use Rattle.mspec.specs.Interpretations.{is_true}
use Rattle.mspec.specs.Number.{sum_of, difference_of, product_of, quotient_of, whole_quotient_of, remainder_of}
use Rattle.mgrammar.specs.Grammar as grammar
use Rattle.mmeaning.specs.Operators.{as_text, both_numbers}
use Rattle.moperator.specs.declared.arithmetic.Arithmetic.{Arithmetic}
use Rattle.moperator.specs.declared.arithmetic.Arithmetic.TheVariants.{Add, Subtract, Multiply, Divide, DivideWhole, Remainder}

abbrev pub operator_tree : Arithmetic → grammar.BinaryTree
operator_tree Add = grammar.add
operator_tree Subtract = grammar.subtract
operator_tree Multiply = grammar.multiply
operator_tree Divide = grammar.divide
operator_tree DivideWhole = grammar.divide_whole
operator_tree Remainder = grammar.remainder

-- what a division by a number gives; its value is this if that number is not 0
abbrev pub division : ℤ → Option ℤ → Act Text
division divisor x = unless M9 (is_true divisor) >> as_text x

-- what an operator gives for two numbers
abbrev pub calculated : Arithmetic → ℤ → ℤ → Act Text
calculated Add a b = as_text (sum_of a b)
calculated Subtract a b = as_text (difference_of a b)
calculated Multiply a b = as_text (product_of a b)
calculated Divide a b = division b (quotient_of a b)
calculated DivideWhole a b = division b (whole_quotient_of a b)
calculated Remainder a b = division b (remainder_of a b)

-- and for two texts
abbrev pub calculated_texts : Arithmetic → Text → Text → Act Text
calculated_texts operator x y = do
  n ← both_numbers x y
  calculated operator n.0 n.1
