-- SPDX-License-Identifier: Apache-2.0
use Rattle.std.proofs.Common.{◌≡◌, ◌∙◌, ap, arith, sym, map, List, ℕ, Vec, Global}
use Rattle.mgrammar.specs.Grammar as grammar
use Rattle.mgrammar.specs.Grammar.{exprs_of, ActualTree, PrimaryTree, ReferenceTree, TailTree, ExprTree, OperandTree}
use Rattle.mgrammar.specs.Languages.{since_primary, since_exprs}
use Rattle.mtree.specs.Tree.{CalledTree, ChoiceTree, expr_tree, primary_tree, actual_layer, primary_layer, reference_layer, tail_layer, called_layer}
use Rattle.mtree.specs.Tree.{choice_layer, expr_layer, operand_layer, referring_layer}
use Rattle.mtree.specs.declared.tree.Expr.{Expr}
use Rattle.mtree.specs.declared.tree.Primary.{Primary}
use Rattle.mtree.specs.declared.tree.Primary.TheVariants as primary
use Rattle.mtree.specs.declared.tree.Actual.TheFolds.{fold-roll-Primary}
use Rattle.mtree.proofs.InLanguages.{call_since}
use Rattle.mtree.proofs.since.+since.Goals as goal

call_is : (word : List ℕ) (values : Vec Expr Global) → primary_tree (primary.Call word values) ≡ grammar.call word (exprs_of (map expr_tree values.items))
call_is word values = ap primary_tree (sym (primary.rolls-Call word values)) ∙ fold-roll-Primary ActualTree PrimaryTree ReferenceTree TailTree CalledTree ChoiceTree ExprTree OperandTree PrimaryTree actual_layer primary_layer reference_layer tail_layer called_layer choice_layer expr_layer operand_layer referring_layer _

pub since_primary-returns-in-Call : goal.since_primary-returns-in-Call
since_primary-returns-in-Call m c =
    call_since c.in-Call.word c.in-Call.arguments.items c.len.result c.since.result c.since_exprs.result c.later.result
    (omega (arith, c.len.ensures, c.in-Call.arguments.ok)) c.since.ensures
    (c.since_exprs.ensures ∙ ap (λ (xs : List Expr). since_exprs (exprs_of (map expr_tree xs))) c.deref-in-Call.ensures.value) c.later.ensures
    ∙ ap since_primary (sym (call_is c.in-Call.word c.in-Call.arguments)) ∙ ap (λ (p : Primary). since_primary (primary_tree p)) (sym c.in-Call.is)
