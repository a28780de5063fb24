-- SPDX-License-Identifier: Apache-2.0
-- The views of trees, a level at a time.
use Rattle.meval.proofs.EvalWords.{◌≡◌, ℕ, Vec, Box, Global, map, sym, ap, ◌∙◌, tails_of, exprs_of, choices_of, PrimaryTree, ReferenceTree, TailTree, ExprTree}
use Rattle.meval.proofs.EvalWords.{OperandTree, ChoiceTree, ActualTree, CalledTree, called_tree, expr_tree, tail_tree, operand_tree, primary_tree}
use Rattle.meval.proofs.EvalWords.{reference_tree, referring_tree, choice_tree, sign_tree, binary_tree, atom_tree, actual_layer, called_layer, primary_layer}
use Rattle.meval.proofs.EvalWords.{reference_layer, tail_layer, choice_layer, expr_layer, operand_layer, referring_layer, Expr, Choice, List}
use Rattle.mgrammar.specs.Grammar as grammar
use Rattle.mtree.specs.declared.tree.Binary.{Binary}
use Rattle.mtree.specs.declared.tree.Atom.{Atom}
use Rattle.mtree.specs.declared.tree.Primary.{Primary}
use Rattle.mtree.specs.declared.tree.Primary.TheVariants as primary
use Rattle.mtree.specs.declared.tree.Reference.{Reference}
use Rattle.mtree.specs.declared.tree.Reference.TheVariants as reference
use Rattle.mtree.specs.declared.tree.Referring.{Referring, out-Referring}
use Rattle.mtree.specs.declared.tree.Tail.TheVariants as tail
use Rattle.mtree.specs.declared.tree.Called.{Called}
use Rattle.mtree.specs.declared.tree.Operand.{Operand}
use Rattle.mtree.specs.declared.tree.Actual.TheFolds.{fold_out-Expr, fold_out-Operand, fold_out-Choice, fold_out-Referring, fold-roll-Primary}
use Rattle.mtree.specs.declared.tree.Actual.TheFolds.{fold-roll-Reference, fold-roll-Tail}

pub expr_is : (e : Expr) → expr_tree e ≡ grammar.expr (operand_tree e.first) (tails_of (map tail_tree e.rest.items))
expr_is = fold_out-Expr ActualTree PrimaryTree ReferenceTree TailTree CalledTree ChoiceTree ExprTree OperandTree PrimaryTree actual_layer primary_layer reference_layer tail_layer called_layer choice_layer expr_layer operand_layer referring_layer

pub operand_is : (o : Operand) → operand_tree o ≡ grammar.operand (map sign_tree o.signs.items) (primary_tree o.primary)
operand_is = fold_out-Operand ActualTree PrimaryTree ReferenceTree TailTree CalledTree ChoiceTree ExprTree OperandTree PrimaryTree actual_layer primary_layer reference_layer tail_layer called_layer choice_layer expr_layer operand_layer referring_layer

pub choice_is : (c : Choice) → choice_tree c ≡ (expr_tree c.condition, expr_tree c.value)
choice_is = fold_out-Choice ActualTree PrimaryTree ReferenceTree TailTree CalledTree ChoiceTree ExprTree OperandTree PrimaryTree actual_layer primary_layer reference_layer tail_layer called_layer choice_layer expr_layer operand_layer referring_layer

pub number_is : (t : List ℕ) → primary_tree (primary.Number t) ≡ grammar.number t
number_is t = ap primary_tree (sym (primary.rolls-Number t)) ∙ fold-roll-Primary ActualTree PrimaryTree ReferenceTree TailTree CalledTree ChoiceTree ExprTree OperandTree PrimaryTree actual_layer primary_layer reference_layer tail_layer called_layer choice_layer expr_layer operand_layer referring_layer _

pub text_is : (t : List ℕ) → primary_tree (primary.Text t) ≡ grammar.text t
text_is t = ap primary_tree (sym (primary.rolls-Text t)) ∙ fold-roll-Primary ActualTree PrimaryTree ReferenceTree TailTree CalledTree ChoiceTree ExprTree OperandTree PrimaryTree actual_layer primary_layer reference_layer tail_layer called_layer choice_layer expr_layer operand_layer referring_layer _

pub special_is : (t : List ℕ) → primary_tree (primary.Special t) ≡ grammar.special t
special_is t = ap primary_tree (sym (primary.rolls-Special t)) ∙ fold-roll-Primary ActualTree PrimaryTree ReferenceTree TailTree CalledTree ChoiceTree ExprTree OperandTree PrimaryTree actual_layer primary_layer reference_layer tail_layer called_layer choice_layer expr_layer operand_layer referring_layer _

pub reference_is : (r : Reference) → primary_tree (primary.Reference r) ≡ grammar.reference (reference_tree r)
reference_is r = ap primary_tree (sym (primary.rolls-Reference r)) ∙ fold-roll-Primary ActualTree PrimaryTree ReferenceTree TailTree CalledTree ChoiceTree ExprTree OperandTree PrimaryTree actual_layer primary_layer reference_layer tail_layer called_layer choice_layer expr_layer operand_layer referring_layer _

pub refer_is : (r : Box Referring Global) → primary_tree (primary.Refer r) ≡ referring_tree r.value
refer_is r = ap primary_tree (sym (primary.rolls-Refer r)) ∙ fold-roll-Primary ActualTree PrimaryTree ReferenceTree TailTree CalledTree ChoiceTree ExprTree OperandTree PrimaryTree actual_layer primary_layer reference_layer tail_layer called_layer choice_layer expr_layer operand_layer referring_layer _

pub referring_is : (r : Referring) → referring_tree r ≡ grammar.refer (out-Referring r).word (reference_tree (out-Referring r).reference) (exprs_of (map expr_tree (out-Referring r).more.items))
referring_is = fold_out-Referring ActualTree PrimaryTree ReferenceTree TailTree CalledTree ChoiceTree ExprTree OperandTree PrimaryTree actual_layer primary_layer reference_layer tail_layer called_layer choice_layer expr_layer operand_layer referring_layer

pub variable_is : (name : List ℕ) → reference_tree (reference.Variable name) ≡ grammar.local name grammar.no_exprs
variable_is name = ap reference_tree (sym (reference.rolls-Variable name)) ∙ fold-roll-Reference ActualTree PrimaryTree ReferenceTree TailTree CalledTree ChoiceTree ExprTree OperandTree PrimaryTree actual_layer primary_layer reference_layer tail_layer called_layer choice_layer expr_layer operand_layer referring_layer _

pub node_is : (name : List ℕ) (subscript : Box Expr Global) → reference_tree (reference.Node name subscript) ≡ grammar.local name (grammar.exprs (expr_tree subscript.value) grammar.no_exprs)
node_is name subscript = ap reference_tree (sym (reference.rolls-Node name subscript)) ∙ fold-roll-Reference ActualTree PrimaryTree ReferenceTree TailTree CalledTree ChoiceTree ExprTree OperandTree PrimaryTree actual_layer primary_layer reference_layer tail_layer called_layer choice_layer expr_layer operand_layer referring_layer _

pub local_is : (name : List ℕ) (subscripts : Vec Expr Global) → reference_tree (reference.Local name subscripts) ≡ grammar.local name (exprs_of (map expr_tree subscripts.items))
local_is name subscripts = ap reference_tree (sym (reference.rolls-Local name subscripts)) ∙ fold-roll-Reference ActualTree PrimaryTree ReferenceTree TailTree CalledTree ChoiceTree ExprTree OperandTree PrimaryTree actual_layer primary_layer reference_layer tail_layer called_layer choice_layer expr_layer operand_layer referring_layer _

pub global_is : (name : List ℕ) (subscripts : Vec Expr Global) → reference_tree (reference.Global name subscripts) ≡ grammar.global name (exprs_of (map expr_tree subscripts.items))
global_is name subscripts = ap reference_tree (sym (reference.rolls-Global name subscripts)) ∙ fold-roll-Reference ActualTree PrimaryTree ReferenceTree TailTree CalledTree ChoiceTree ExprTree OperandTree PrimaryTree actual_layer primary_layer reference_layer tail_layer called_layer choice_layer expr_layer operand_layer referring_layer _

pub naked_is : (subscripts : Vec Expr Global) → reference_tree (reference.Naked subscripts) ≡ grammar.naked (exprs_of (map expr_tree subscripts.items))
naked_is subscripts = ap reference_tree (sym (reference.rolls-Naked subscripts)) ∙ fold-roll-Reference ActualTree PrimaryTree ReferenceTree TailTree CalledTree ChoiceTree ExprTree OperandTree PrimaryTree actual_layer primary_layer reference_layer tail_layer called_layer choice_layer expr_layer operand_layer referring_layer _

pub indirect_is : (operand : Box Primary Global) (subscripts : Vec Expr Global) → reference_tree (reference.Indirect operand subscripts) ≡ grammar.indirect (primary_tree operand.value) (exprs_of (map expr_tree subscripts.items))
indirect_is operand subscripts = ap reference_tree (sym (reference.rolls-Indirect operand subscripts)) ∙ fold-roll-Reference ActualTree PrimaryTree ReferenceTree TailTree CalledTree ChoiceTree ExprTree OperandTree PrimaryTree actual_layer primary_layer reference_layer tail_layer called_layer choice_layer expr_layer operand_layer referring_layer _

pub extended_is : (environment : Box Expr Global) (name : List ℕ) (subscripts : Vec Expr Global) → reference_tree (reference.Extended environment name subscripts) ≡ grammar.extended (expr_tree environment.value) name (exprs_of (map expr_tree subscripts.items))
extended_is environment name subscripts = ap reference_tree (sym (reference.rolls-Extended environment name subscripts)) ∙ fold-roll-Reference ActualTree PrimaryTree ReferenceTree TailTree CalledTree ChoiceTree ExprTree OperandTree PrimaryTree actual_layer primary_layer reference_layer tail_layer called_layer choice_layer expr_layer operand_layer referring_layer _

pub bracket_is : (inner : Box Expr Global) → primary_tree (primary.Bracket inner) ≡ grammar.bracket (expr_tree inner.value)
bracket_is inner = ap primary_tree (sym (primary.rolls-Bracket inner)) ∙ fold-roll-Primary ActualTree PrimaryTree ReferenceTree TailTree CalledTree ChoiceTree ExprTree OperandTree PrimaryTree actual_layer primary_layer reference_layer tail_layer called_layer choice_layer expr_layer operand_layer referring_layer _

pub call_is : (word : List ℕ) (args : Vec Expr Global) → primary_tree (primary.Call word args) ≡ grammar.call word (exprs_of (map expr_tree args.items))
call_is word args = ap primary_tree (sym (primary.rolls-Call word args)) ∙ fold-roll-Primary ActualTree PrimaryTree ReferenceTree TailTree CalledTree ChoiceTree ExprTree OperandTree PrimaryTree actual_layer primary_layer reference_layer tail_layer called_layer choice_layer expr_layer operand_layer referring_layer _

pub select_is : (word : List ℕ) (choices : Vec Choice Global) → primary_tree (primary.Select word choices) ≡ grammar.select word (choices_of (map choice_tree choices.items))
select_is word choices = ap primary_tree (sym (primary.rolls-Select word choices)) ∙ fold-roll-Primary ActualTree PrimaryTree ReferenceTree TailTree CalledTree ChoiceTree ExprTree OperandTree PrimaryTree actual_layer primary_layer reference_layer tail_layer called_layer choice_layer expr_layer operand_layer referring_layer _

pub extrinsic_is : (called : Box Called Global) → primary_tree (primary.Extrinsic called) ≡ grammar.extrinsic (called_tree called.value).0 (called_tree called.value).1
extrinsic_is called = ap primary_tree (sym (primary.rolls-Extrinsic called)) ∙ fold-roll-Primary ActualTree PrimaryTree ReferenceTree TailTree CalledTree ChoiceTree ExprTree OperandTree PrimaryTree actual_layer primary_layer reference_layer tail_layer called_layer choice_layer expr_layer operand_layer referring_layer _

pub apply_is : (b : Binary) (o : Operand) → tail_tree (tail.Apply b o) ≡ grammar.apply (binary_tree b) (operand_tree o)
apply_is b o = ap tail_tree (sym (tail.rolls-Apply b o)) ∙ fold-roll-Tail ActualTree PrimaryTree ReferenceTree TailTree CalledTree ChoiceTree ExprTree OperandTree PrimaryTree actual_layer primary_layer reference_layer tail_layer called_layer choice_layer expr_layer operand_layer referring_layer _

pub raise_is : (o : Operand) → tail_tree (tail.Raise o) ≡ grammar.raise (operand_tree o)
raise_is o = ap tail_tree (sym (tail.rolls-Raise o)) ∙ fold-roll-Tail ActualTree PrimaryTree ReferenceTree TailTree CalledTree ChoiceTree ExprTree OperandTree PrimaryTree actual_layer primary_layer reference_layer tail_layer called_layer choice_layer expr_layer operand_layer referring_layer _

pub matches_is : (atoms : Vec Atom Global) → tail_tree (tail.Matches atoms) ≡ grammar.matches (map atom_tree atoms.items)
matches_is atoms = ap tail_tree (sym (tail.rolls-Matches atoms)) ∙ fold-roll-Tail ActualTree PrimaryTree ReferenceTree TailTree CalledTree ChoiceTree ExprTree OperandTree PrimaryTree actual_layer primary_layer reference_layer tail_layer called_layer choice_layer expr_layer operand_layer referring_layer _

pub matches_not_is : (atoms : Vec Atom Global) → tail_tree (tail.MatchesNot atoms) ≡ grammar.matches_not (map atom_tree atoms.items)
matches_not_is atoms = ap tail_tree (sym (tail.rolls-MatchesNot atoms)) ∙ fold-roll-Tail ActualTree PrimaryTree ReferenceTree TailTree CalledTree ChoiceTree ExprTree OperandTree PrimaryTree actual_layer primary_layer reference_layer tail_layer called_layer choice_layer expr_layer operand_layer referring_layer _

pub matches_indirect_is : (operand : Box Primary Global) → tail_tree (tail.MatchesIndirect operand) ≡ grammar.matches_indirect (primary_tree operand.value)
matches_indirect_is operand = ap tail_tree (sym (tail.rolls-MatchesIndirect operand)) ∙ fold-roll-Tail ActualTree PrimaryTree ReferenceTree TailTree CalledTree ChoiceTree ExprTree OperandTree PrimaryTree actual_layer primary_layer reference_layer tail_layer called_layer choice_layer expr_layer operand_layer referring_layer _

pub matches_not_indirect_is : (operand : Box Primary Global) → tail_tree (tail.MatchesNotIndirect operand) ≡ grammar.matches_not_indirect (primary_tree operand.value)
matches_not_indirect_is operand = ap tail_tree (sym (tail.rolls-MatchesNotIndirect operand)) ∙ fold-roll-Tail ActualTree PrimaryTree ReferenceTree TailTree CalledTree ChoiceTree ExprTree OperandTree PrimaryTree actual_layer primary_layer reference_layer tail_layer called_layer choice_layer expr_layer operand_layer referring_layer _
