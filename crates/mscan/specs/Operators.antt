-- SPDX-License-Identifier: Apache-2.0
-- An operator of the parser, as what is read.
use Rattle.mgrammar.specs.ReadingWords as reading
use Rattle.mgrammar.specs.ReadingWords.{OperatorTree}
use Rattle.mtree.specs.Tree.{binary_tree}
use Rattle.mscan.specs.declared.operator.Operator.{Operator}
use Rattle.mscan.specs.declared.operator.Operator.TheVariants as operator

abbrev pub operator_tree : Operator → OperatorTree
operator_tree (operator.Between b) = reading.between (binary_tree b)
operator_tree operator.Match = reading.matching
operator_tree operator.MatchNot = reading.matching_not
operator_tree operator.Raise = reading.raising
