-- SPDX-License-Identifier: Apache-2.0
-- Where the FOR before a place of a line has an index.
use Rattle.mexec.proofs.ExecWords.{arith, ◌≡◌, ℕ, Bool, true, false, List, [], Option, None, is_some, Arg, Line, is_loop, has_index, has_course, loop_in}
use Rattle.mcommand.specs.declared.for_parameter.Course.{Course}
use Rattle.mcommand.specs.declared.for_parameter.Course.TheVariants as course

-- if there is none, no parameter is left
pub no_parameters : (args : List Arg) → is_loop args ≡ false → loop_in args ≡ ([], [])
no_parameters args h = grind arith

-- with an index each course can be had
pub any_course : (l : Line) (at : ℕ) (c : Course) → has_index l at ≡ true → has_course l at c ≡ true
any_course l at c h = grind arith

-- and without one no other than that which has no end
pub no_course : (l : Line) (at : ℕ) (c : Course) → has_index l at ≡ false → has_course l at c ≡ true → c ≡ course.Forever
no_course l at c h e = grind arith

-- it is not found
pub not_found : {A : Type 0} (o : Option A) (b : Bool) → o ≡ None → is_some o ≡ b → b ≡ false
not_found o b h e = grind arith
