-- SPDX-License-Identifier: Apache-2.0
use Rattle.moperator.proofs.OperatorWords.{sum_of, difference_of, product_of, quotient_of, whole_quotient_of, remainder_of, units}
use Rattle.moperator.proofs.arithmetic.calculate.Goals as goal

pub returns-in-Add : goal.returns-in-Add
returns-in-Add c = rw c.in-Add.is (c.in_range.ensures (sum_of (units c.args.left.now) (units c.args.right.now)) c.add_assign.new.self c.add_assign.ensures)

pub returns-in-Subtract : goal.returns-in-Subtract
returns-in-Subtract c = rw c.in-Subtract.is (c.in_range-in-Subtract.ensures (difference_of (units c.args.left.now) (units c.args.right.now)) c.sub_assign.new.self c.sub_assign.ensures)

pub returns-in-Multiply : goal.returns-in-Multiply
returns-in-Multiply c = rw c.in-Multiply.is (c.in_range-in-Multiply.ensures (product_of (units c.args.left.now) (units c.args.right.now)) c.mul_assign.new.self c.mul_assign.ensures)

pub returns-in-Divide : goal.returns-in-Divide
returns-in-Divide c = rw c.in-Divide.is (c.divided.ensures (units c.args.right.now) (quotient_of (units c.args.left.now) (units c.args.right.now)) c.div_assign.new.self c.div_assign.ensures)

pub returns-in-DivideWhole : goal.returns-in-DivideWhole
returns-in-DivideWhole c = rw c.in-DivideWhole.is (c.divided-in-DivideWhole.ensures (units c.args.right.now) (whole_quotient_of (units c.args.left.now) (units c.args.right.now)) c.quot_assign.new.self c.quot_assign.ensures)

pub returns-in-Remainder : goal.returns-in-Remainder
returns-in-Remainder c = rw c.in-Remainder.is (c.divided-in-Remainder.ensures (units c.args.right.now) (remainder_of (units c.args.left.now) (units c.args.right.now)) c.rem_assign.new.self c.rem_assign.ensures.value)
