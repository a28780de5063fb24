-- SPDX-License-Identifier: Apache-2.0
-- The parameters of a FOR, without the commands that its turns do.
use Rattle.std.specs.Prelude.{ℤ, ◌+ℤ◌, Bool, true, false, cond, [], Option, Some}
use Rattle.mspec.specs.Number.{sum_of}
use Rattle.mspec.specs.NumberText.{number_text}
use Rattle.mspec.specs.Act.{Text, Act, ◌>>=◌, ◌>>◌, give}
use Rattle.mgrammar.specs.Grammar.{ExprTree, ParameterTree, once, onward, until}
use Rattle.mmeaning.specs.Operators.{as_text}
use Rattle.mmeaning.specs.Variables.{at_local, put_at}
use Rattle.mmeaning.specs.Expression.{Inside, value}
use Rattle.mmeaning.specs.LineMeaning.{index_number, number_of}
pub use Rattle.mmeaning.specs.Programs.{begun_within}
use Rattle.mmeaning.specs.Courses as courses
use Rattle.mmeaning.specs.Courses.{is_past}
use Rattle.mnum.specs.Num.{units}
use Rattle.mcommand.specs.declared.for_parameter.Course.{Course}
use Rattle.mcommand.specs.declared.for_parameter.Course.TheVariants as course

abbrev pub course_view : Course → courses.Course
course_view course.LastTurn = courses.last_turn
course_view (course.Endless by) = courses.endless (units by)
course_view (course.Limited by limit) = courses.limited (units by) (units limit)
course_view course.Forever = courses.forever

-- the numbers of a start and of an increment
abbrev pub start_and_increment : Inside → ExprTree → ExprTree → Act (ℤ × ℤ)
start_and_increment i e by = do
  a ← number_of i e
  b ← number_of i by
  give (a, b)

-- a parameter is evaluated, and the index gets its first value: how its turns go on, if there is one
abbrev pub started : Inside → Text → ParameterTree → Act (Option courses.Course)
started i index (once e) = do
  a ← value i e
  put_at (at_local index []) a
  give (Some courses.last_turn)
started i index (onward e by) = do
  numbers ← start_and_increment i e by
  put_at (at_local index []) (number_text numbers.0)
  give (Some (courses.endless numbers.1))
started i index (until e by to) = do
  numbers ← start_and_increment i e by
  limit ← number_of i to
  put_at (at_local index []) (number_text numbers.0)
  give (begun_within numbers.0 numbers.1 limit)

-- the index gets its number with the increment added
abbrev pub added : Text → ℤ → ℤ → Act Bool
added index n by = do
  next ← as_text (sum_of n by)
  put_at (at_local index []) next
  give true

-- the same, unless that is beyond the limit
abbrev pub added_within : Text → ℤ → ℤ → ℤ → Act Bool
added_within index n by limit = cond (is_past by (n +ℤ by) limit) (give false) (added index n by)

-- after a turn: whether there is one more turn of its course, for which the index is set
abbrev pub advanced : Text → courses.Course → Act Bool
advanced index courses.last_turn = give false
advanced index (courses.endless by) = do
  n ← index_number index
  added index n by
advanced index (courses.limited by limit) = do
  n ← index_number index
  added_within index n by limit
advanced index courses.forever = give true
