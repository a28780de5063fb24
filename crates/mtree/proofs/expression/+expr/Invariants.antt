-- SPDX-License-Identifier: Apache-2.0
use Rattle.std.proofs.Common.{◌≡◌, ◌++◌, drop, map}
use Rattle.mtree.specs.Tree.{expr_tree, tail_tree}
use Rattle.mgrammar.specs.Grammar.{spell_tails, tails_of, spell_more_exprs, exprs_of}
use Rattle.mtree.proofs.expression.+expr.Given as goal

abbrev pub invariant-put_tails-loop-tail : goal.invariant-put_tails-loop-tail
invariant-put_tails-loop-tail l = l.out ++ spell_tails (tails_of (map tail_tree (drop l.tail-index l.tails))) ≡ l.fn.out ++ spell_tails (tails_of (map tail_tree l.tails))

abbrev pub invariant-put_more-loop-expr : goal.invariant-put_more-loop-expr
invariant-put_more-loop-expr l = l.out ++ spell_more_exprs (exprs_of (map expr_tree (drop l.expr-index l.more))) ≡ l.fn.out ++ spell_more_exprs (exprs_of (map expr_tree l.more))
