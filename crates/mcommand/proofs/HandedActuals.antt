-- SPDX-License-Identifier: Apache-2.0
-- The views of what is called and of actuals, a level at a time.
use Rattle.mcommand.proofs.CommandWords.{◌≡◌, ℕ, List, Global, map, sym, ap, ◌∙◌, ExprTree, entry_tree, expr_tree}
use Rattle.std.specs.Prelude.{Box}
use Rattle.mgrammar.specs.Grammar as grammar
use Rattle.mgrammar.specs.Grammar.{PrimaryTree, ReferenceTree, TailTree, OperandTree, ActualTree, actuals_of}
use Rattle.mtree.specs.Tree.{CalledTree, ChoiceTree, primary_tree, actual_tree, called_tree, actual_layer, called_layer, primary_layer, reference_layer}
use Rattle.mtree.specs.Tree.{tail_layer, choice_layer, expr_layer, operand_layer, referring_layer}
use Rattle.mtree.specs.declared.tree.Expr.{Expr}
use Rattle.mtree.specs.declared.tree.Primary.{Primary}
use Rattle.mtree.specs.declared.tree.Actual.TheVariants as actual
use Rattle.mtree.specs.declared.tree.Called.{Called, out-Called}
use Rattle.mtree.specs.declared.tree.Actual.TheFolds.{fold_out-Called, fold-roll-Actual}

pub called_is : (c : Called) → called_tree c ≡ (entry_tree (out-Called c).entry, actuals_of (map actual_tree (out-Called c).actuals.items))
called_is =
    fold_out-Called ActualTree PrimaryTree ReferenceTree TailTree CalledTree ChoiceTree ExprTree OperandTree PrimaryTree actual_layer primary_layer reference_layer tail_layer called_layer choice_layer expr_layer operand_layer referring_layer

pub missing_is : actual_tree actual.Missing ≡ grammar.missing_actual
missing_is =
    ap actual_tree
    (sym actual.rolls-Missing) ∙ fold-roll-Actual ActualTree PrimaryTree ReferenceTree TailTree CalledTree ChoiceTree ExprTree OperandTree PrimaryTree actual_layer primary_layer reference_layer tail_layer called_layer choice_layer expr_layer operand_layer referring_layer _

pub value_is : (e : Expr) → actual_tree (actual.Value e) ≡ grammar.value_actual (expr_tree e)
value_is e =
    ap actual_tree
    (sym (actual.rolls-Value e)) ∙ fold-roll-Actual ActualTree PrimaryTree ReferenceTree TailTree CalledTree ChoiceTree ExprTree OperandTree PrimaryTree actual_layer primary_layer reference_layer tail_layer called_layer choice_layer expr_layer operand_layer referring_layer _

pub name_actual_is : (name : List ℕ) → actual_tree (actual.Name name) ≡ grammar.name_actual name
name_actual_is name =
    ap actual_tree
    (sym (actual.rolls-Name name)) ∙ fold-roll-Actual ActualTree PrimaryTree ReferenceTree TailTree CalledTree ChoiceTree ExprTree OperandTree PrimaryTree actual_layer primary_layer reference_layer tail_layer called_layer choice_layer expr_layer operand_layer referring_layer _

pub indirect_actual_is : (operand : Box Primary Global) → actual_tree (actual.IndirectName operand) ≡ grammar.indirect_actual (primary_tree operand.value)
indirect_actual_is operand =
    ap actual_tree
    (sym (actual.rolls-IndirectName operand)) ∙ fold-roll-Actual ActualTree PrimaryTree ReferenceTree TailTree CalledTree ChoiceTree ExprTree OperandTree PrimaryTree actual_layer primary_layer reference_layer tail_layer called_layer choice_layer expr_layer operand_layer referring_layer _
