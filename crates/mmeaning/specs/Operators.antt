-- SPDX-License-Identifier: Apache-2.0
-- What operators give for values.
--
-- Restates "Unary operator", "Binary operators" and "Pattern match pattern" of ISO/IEC 11756:1999. If an operator wants
-- numbers, its operands become numbers once both are evaluated, the left one first.
use Rattle.std.specs.Prelude.{ℕ, zero, suc, ◌^◌, ℤ, pos, neg_ℤ, unsigned_abs, Bool, not, ◌&&◌, ◌||◌, cond, nat_eq, List, [], ◌∷◌, ◌++◌, map, length, Option}
use Rattle.std.specs.Prelude.{option_map, Result, Ok, Err}
use Rattle.std.specs.List.{list_any}
use Rattle.std.specs.Ordering.{int_cmp, is_lt, is_gt}
use Rattle.std.specs.Cmp.Lexicographic.{pointwise}
use Rattle.mspec.specs.Number.{significant_digits, is_below_zero, sum_of, difference_of, product_of, quotient_of, whole_quotient_of, remainder_of}
use Rattle.mspec.specs.NumberText.{numeric_value, number_text}
use Rattle.mspec.specs.Interpretations.{is_true, is_whole, whole_part, truth_text}
use Rattle.mspec.specs.NodeOrder.{text_cmp}
use Rattle.mspec.specs.TextFunctions as texts
use Rattle.mspec.specs.PatternTests.{is_match}
use Rattle.mgrammar.specs.Matching.{atom_of, atom_reversed, turns_of}
use Rattle.mgrammar.specs.Grammar.{AtomTree, SignTree, plus, minus, negate, TruthTree, equals, less, greater, contains, follows, sorts_after, both, either}
use Rattle.mgrammar.specs.Grammar.{BinaryTree, add, subtract, multiply, divide, divide_whole, remainder, join, is, is_not}
use Rattle.mspec.specs.Code.{Code, M9, M10, M28, M94, Zover}
use Rattle.mspec.specs.Act.{Text, Act, ◌>>=◌, ◌>>◌, give, fail, give_some, unless, charge}

abbrev pub as_number : Text → Act ℤ
as_number x = give_some Zover (numeric_value significant_digits x)

-- a result as its canonical text
abbrev pub as_text : Option ℤ → Act Text
as_text result = give_some Zover (option_map number_text result)

abbrev pub as_truth : Text → Act Bool
as_truth x = do
  n ← as_number x
  give (is_true n)

-- what was made, or the code in its place
abbrev pub outcome : Result Text Code → Act Text
outcome (Ok x) = give x
outcome (Err c) = fail c

-- ---- unary operators

abbrev pub unary : SignTree → Text → Act Text
unary plus x = do
  n ← as_number x
  give (number_text n)
unary minus x = do
  n ← as_number x
  give (number_text (neg_ℤ n))
unary negate x = do
  b ← as_truth x
  give (truth_text (not b))

-- the sign nearest to the operand first
abbrev pub unaries : List SignTree → Text → Act Text
unaries [] x = give x
unaries (s ∷ ss) x = do
  y ← unaries ss x
  unary s y

-- ---- binary operators

-- two texts as numbers, the left one first
abbrev pub both_numbers : Text → Text → Act (ℤ × ℤ)
both_numbers x y = do
  a ← as_number x
  b ← as_number y
  give (a, b)

abbrev pub arithmetic : (ℤ → ℤ → Option ℤ) → Text → Text → Act Text
arithmetic operator x y = do
  n ← both_numbers x y
  as_text (operator n.0 n.1)

-- by a divisor that is not 0
abbrev pub division : (ℤ → ℤ → Option ℤ) → Text → Text → Act Text
division operator x y = do
  n ← both_numbers x y
  unless M9 (is_true n.1)
  as_text (operator n.0 n.1)

abbrev pub of_numbers : (ℤ → ℤ → Bool) → Text → Text → Act Bool
of_numbers test x y = do
  n ← both_numbers x y
  give (test n.0 n.1)

abbrev pub truth : TruthTree → Text → Text → Act Bool
truth equals x y = give (pointwise nat_eq x y)
truth less x y = of_numbers (λ a b. is_lt (int_cmp a b)) x y
truth greater x y = of_numbers (λ a b. is_gt (int_cmp a b)) x y
truth contains x y = give (texts.contains x y)
truth follows x y = give (texts.follows x y)
truth sorts_after x y = give (is_gt (text_cmp significant_digits x y))
truth both x y = of_numbers (λ a b. is_true a && is_true b) x y
truth either x y = of_numbers (λ a b. is_true a || is_true b) x y

abbrev pub binary : BinaryTree → Text → Text → Act Text
binary add x y = arithmetic sum_of x y
binary subtract x y = arithmetic difference_of x y
binary multiply x y = arithmetic product_of x y
binary divide x y = division quotient_of x y
binary divide_whole x y = division whole_quotient_of x y
binary remainder x y = division remainder_of x y
binary join x y = outcome (texts.made (x ++ y))
binary (is t) x y = do
  b ← truth t x y
  give (truth_text b)
binary (is_not t) x y = do
  b ← truth t x y
  give (truth_text (not b))

-- ---- `**`

-- an operator with the same text to the right, so often; each time costs a step before it
abbrev pub repeated : (Text → Text → Act Text) → Text → ℕ → Text → Act Text
repeated operator y zero x = give x
repeated operator y (suc n) x = do
  charge
  z ← operator x y
  repeated operator y n z

-- a number raised to a whole one: 1 multiplied by it so often, or divided by it if the exponent is below zero
abbrev pub raised : ℤ → ℤ → Act Text
raised a n = repeated (binary (cond (is_below_zero n) divide multiply)) (number_text a) (unsigned_abs (whole_part n)) (number_text (pos (10 ^ 18)))

-- the number that is raised, and the exponent, which has no fraction; zero to the power zero is no number
abbrev pub base_and_exponent : Text → Text → Act (ℤ × ℤ)
base_and_exponent x y = do
  n ← both_numbers x y
  unless M28 (is_whole n.1)
  unless M94 (is_true n.0 || is_true n.1)
  give n

abbrev pub raising : Text → Text → Act Text
raising x y = do
  n ← base_and_exponent x y
  raised n.0 n.1

-- ---- patterns

-- this many steps, one after another
abbrev pub charges : ℕ → Act (Unit {0})
charges zero = give tt
charges (suc n) = charge >> charges n

-- Any atom whose greatest count is below its least is an error, whether the text comes to it or not. What the turns of groups take at most
-- is charged before the text is matched, and all of it is, however few turns there are.
abbrev pub matching : List AtomTree → Text → Act Bool
matching pattern x = do
  unless M10 (not (list_any atom_reversed pattern))
  charges (turns_of (length x) pattern)
  give (is_match (map atom_of pattern) x)
